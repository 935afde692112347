use Rattle.pdb_merge.proofs.UnionLaws.{types_of_both}
use Rattle.pdb_merge.proofs.laws.types_of_both.Goals as goal

pub returns : goal.returns
returns c = types_of_both
