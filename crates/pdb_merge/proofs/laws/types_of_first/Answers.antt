use Rattle.pdb_merge.proofs.UnionLaws.{types_of_first}
use Rattle.pdb_merge.proofs.laws.types_of_first.Goals as goal

pub returns : goal.returns
returns c = types_of_first
