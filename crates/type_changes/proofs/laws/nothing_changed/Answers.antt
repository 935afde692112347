use Rattle.type_changes.proofs.ChangeLaws.{nothing_changed as law}
use Rattle.type_changes.proofs.laws.nothing_changed.Goals as goal

pub returns : goal.returns
returns c = law
