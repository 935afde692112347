use Rattle.pdb_merge.proofs.FileLaws.{merged_files_differ}
use Rattle.pdb_merge.proofs.laws.merged_files_differ.Goals as goal

pub returns : goal.returns
returns c = merged_files_differ
