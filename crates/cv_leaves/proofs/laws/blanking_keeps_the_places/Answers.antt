use Rattle.cv_leaves.proofs.FillLaws.{blank_kept}
use Rattle.cv_leaves.proofs.laws.blanking_keeps_the_places.Goals as goal

pub returns : goal.returns
returns c = blank_kept
