use Rattle.cv_leaves.proofs.FilledLaws.{filled_framed}
use Rattle.cv_leaves.proofs.laws.filling_keeps_the_frame.Goals as goal

pub returns : goal.returns
returns c = filled_framed
