use Rattle.cv_leaves.proofs.HoldLaws.{places_met}
use Rattle.cv_leaves.proofs.laws.places_are_met.Goals as goal

pub returns : goal.returns
returns c = places_met
