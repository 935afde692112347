use Rattle.type_expressions.proofs.AskedLaws.{all_trees as law}
use Rattle.type_expressions.proofs.laws.trees_exist.Goals as goal

pub returns : goal.returns
returns c = law
