use Rattle.cv_leaves.proofs.FilledLaws.{filled_bytes}
use Rattle.cv_leaves.proofs.laws.filling_keeps_bytes.Goals as goal

pub returns : goal.returns
returns c = filled_bytes
