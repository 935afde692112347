use Rattle.pdb_merge.proofs.FileLaws.{merged_reads_back}
use Rattle.pdb_merge.proofs.laws.merged_reads_back.Goals as goal

pub returns : goal.returns
returns c = merged_reads_back
