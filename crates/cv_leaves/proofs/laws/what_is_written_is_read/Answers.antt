use Rattle.cv_leaves.proofs.KeepLaws.{written_is_read}
use Rattle.cv_leaves.proofs.laws.what_is_written_is_read.Goals as goal

pub returns : goal.returns
returns c = written_is_read
