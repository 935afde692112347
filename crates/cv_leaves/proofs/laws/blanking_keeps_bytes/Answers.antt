use Rattle.cv_leaves.proofs.FilledLaws.{blanked_bytes}
use Rattle.cv_leaves.proofs.laws.blanking_keeps_bytes.Goals as goal

pub returns : goal.returns
returns c = blanked_bytes
