use Rattle.pdb_merge.proofs.FileLaws.{merged_has}
use Rattle.pdb_merge.proofs.laws.merged_has.Goals as goal

pub returns : goal.returns
returns c = merged_has
