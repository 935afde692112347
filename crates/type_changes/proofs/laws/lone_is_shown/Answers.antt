use Rattle.type_changes.proofs.ChangeLaws.{lone_is_shown as law}
use Rattle.type_changes.proofs.laws.lone_is_shown.Goals as goal

pub returns : goal.returns
returns c = law
