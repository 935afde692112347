use Rattle.pdb_merge.proofs.UnionLaws.{weight_of_files}
use Rattle.pdb_merge.proofs.laws.weight_of_files.Goals as goal

pub returns : goal.returns
returns c = weight_of_files
