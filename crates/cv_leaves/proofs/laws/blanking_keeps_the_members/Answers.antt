use Rattle.cv_leaves.proofs.FieldListLaws.{members_differ}
use Rattle.cv_leaves.proofs.laws.blanking_keeps_the_members.Goals as goal

pub returns : goal.returns
returns c = members_differ
