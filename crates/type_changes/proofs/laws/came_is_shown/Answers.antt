use Rattle.type_changes.proofs.ChangeLaws.{came_is_shown as law}
use Rattle.type_changes.proofs.laws.came_is_shown.Goals as goal

pub returns : goal.returns
returns c = law
