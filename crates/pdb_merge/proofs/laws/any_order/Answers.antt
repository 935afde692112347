use Rattle.pdb_merge.proofs.UnionLaws.{any_order}
use Rattle.pdb_merge.proofs.laws.any_order.Goals as goal

pub returns : goal.returns
returns c = any_order
