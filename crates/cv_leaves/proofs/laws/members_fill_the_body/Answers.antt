use Rattle.cv_leaves.proofs.PlaceLaws.{members_fill}
use Rattle.cv_leaves.proofs.laws.members_fill_the_body.Goals as goal

pub returns : goal.returns
returns c = members_fill
