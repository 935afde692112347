use Rattle.type_table.proofs.CanonTableLaws.{canon_same}
use Rattle.type_table.proofs.canon.Canon.join.Goals as goal

pub returns-clause-value : goal.returns-clause-value
returns-clause-value g c = canon_same c.in_ok-canon.canon _ _ c.in_ok-canon.ensures.value (rw c.in_ok-table.ensures at c.in_ok-add.ensures.value)
