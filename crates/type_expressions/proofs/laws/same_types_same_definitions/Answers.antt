use Rattle.type_expressions.proofs.AskedLaws.{same_types_same_definitions as law}
use Rattle.type_expressions.proofs.laws.same_types_same_definitions.Goals as goal

pub returns : goal.returns
returns c = law
