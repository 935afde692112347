use Rattle.pdb_merge.proofs.UnionLaws.{refused_in_any_order}
use Rattle.pdb_merge.proofs.laws.refused_in_any_order.Goals as goal

pub returns : goal.returns
returns g c = refused_in_any_order
