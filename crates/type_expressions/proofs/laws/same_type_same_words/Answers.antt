use Rattle.type_expressions.proofs.TellLaws.{same_type_same_words as law}
use Rattle.type_expressions.proofs.laws.same_type_same_words.Goals as goal

pub returns : goal.returns
returns c = law
