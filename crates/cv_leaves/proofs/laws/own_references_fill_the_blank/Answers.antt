use Rattle.cv_leaves.proofs.FilledLaws.{own_fill}
use Rattle.cv_leaves.proofs.laws.own_references_fill_the_blank.Goals as goal

pub returns : goal.returns
returns c = own_fill
