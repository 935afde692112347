use Rattle.cv_leaves.proofs.FilledLaws.{filled_blank}
use Rattle.cv_leaves.proofs.laws.filling_keeps_the_blank.Goals as goal

pub returns : goal.returns
returns c = filled_blank
