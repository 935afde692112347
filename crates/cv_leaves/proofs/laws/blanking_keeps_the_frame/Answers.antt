use Rattle.cv_leaves.proofs.FilledLaws.{blanked_framed}
use Rattle.cv_leaves.proofs.laws.blanking_keeps_the_frame.Goals as goal

pub returns : goal.returns
returns c = blanked_framed
