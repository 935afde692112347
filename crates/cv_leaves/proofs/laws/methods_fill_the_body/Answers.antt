use Rattle.cv_leaves.proofs.PlaceLaws.{methods_fill}
use Rattle.cv_leaves.proofs.laws.methods_fill_the_body.Goals as goal

pub returns : goal.returns
returns c = methods_fill
