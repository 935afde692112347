use Rattle.pdb_merge.proofs.FileLaws.{one_merged_file}
use Rattle.pdb_merge.proofs.laws.one_merged_file.Goals as goal

pub returns : goal.returns
returns c = one_merged_file
