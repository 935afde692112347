use Rattle.pdb_merge.proofs.FileLaws.{merged_again}
use Rattle.pdb_merge.proofs.laws.merged_again.Goals as goal

pub returns : goal.returns
returns c = merged_again
