use Rattle.cv_leaves.proofs.HoldLaws.{one_places}
use Rattle.cv_leaves.proofs.laws.one_list_of_places.Goals as goal

pub returns : goal.returns
returns c = one_places
