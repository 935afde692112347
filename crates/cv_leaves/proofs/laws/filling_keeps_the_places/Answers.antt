use Rattle.cv_leaves.proofs.FillLaws.{fill_kept}
use Rattle.cv_leaves.proofs.laws.filling_keeps_the_places.Goals as goal

pub returns : goal.returns
returns c = fill_kept
