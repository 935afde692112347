use Rattle.type_difference.proofs.DifferenceLaws.{difference_begins}
use Rattle.type_difference.proofs.laws.difference_begins.Goals as goal

pub returns : goal.returns
returns c = difference_begins
