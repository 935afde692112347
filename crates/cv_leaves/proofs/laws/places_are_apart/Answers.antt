use Rattle.cv_leaves.proofs.PlaceLaws.{places_apart}
use Rattle.cv_leaves.proofs.laws.places_are_apart.Goals as goal

pub returns : goal.returns
returns c = places_apart
