use Rattle.pdbmerge_c.proofs.TextLaws.{none_kept}
use Rattle.pdbmerge_c.proofs.text.Text.new.Goals as goal

pub invariant_of-result : goal.invariant_of-result
invariant_of-result c = none_kept
