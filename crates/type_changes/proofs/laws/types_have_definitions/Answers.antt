use Rattle.type_changes.proofs.TypeLaws.{types_have_definitions as law}
use Rattle.type_changes.proofs.laws.types_have_definitions.Goals as goal

pub returns : goal.returns
returns c = law
