use Rattle.cv_leaves.proofs.FilledLaws.{filled_read}
use Rattle.cv_leaves.proofs.laws.filled_numbers_are_read.Goals as goal

pub returns : goal.returns
returns c = filled_read
