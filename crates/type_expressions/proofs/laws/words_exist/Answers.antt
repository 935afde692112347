use Rattle.type_expressions.proofs.TellLaws.{words_exist as law}
use Rattle.type_expressions.proofs.laws.words_exist.Goals as goal

pub returns : goal.returns
returns c = law
