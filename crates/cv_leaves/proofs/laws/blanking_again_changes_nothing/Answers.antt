use Rattle.cv_leaves.proofs.FillLaws.{blank_again}
use Rattle.cv_leaves.proofs.laws.blanking_again_changes_nothing.Goals as goal

pub returns : goal.returns
returns c = blank_again
