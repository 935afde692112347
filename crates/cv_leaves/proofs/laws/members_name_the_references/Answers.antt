use Rattle.cv_leaves.proofs.FieldListLaws.{members_name}
use Rattle.cv_leaves.proofs.laws.members_name_the_references.Goals as goal

pub returns : goal.returns
returns c = members_name
