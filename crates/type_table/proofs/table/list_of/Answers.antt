use Rattle.canonical_list.proofs.FinishLaws.{canon_weighs}
use Rattle.packed_texts.specs.PackedTexts.{texts_at}
use Rattle.type_table.proofs.CanonTableLaws.{canon_of_table}
use Rattle.type_table.proofs.table.list_of.Goals as goal

pub invariant_of-result : goal.invariant_of-result
invariant_of-result g c =
    let now = c.order_of.new.records in
    let order = c.in_ok-order.order.items in
    rw (c.in_ok-texts.ensures, c.deref.ensures.value) (canon_of_table c.args.records now order c.requires.table.table c.in_ok-order.ensures.canon c.in_ok-order.ensures.order.inside (rw c.bytes.ensures.value at c.are_bytes.ensures))

pub returns-clause-value : goal.returns-clause-value
returns-clause-value g c = rw (c.in_ok-texts.ensures, c.deref.ensures.value) c.in_ok-order.ensures.canon

pub returns-clause-maps : goal.returns-clause-maps
returns-clause-maps g c = rw (c.in_ok-texts.ensures, c.deref.ensures.value) c.in_ok-order.ensures.maps

pub returns-clause-bytes : goal.returns-clause-bytes
returns-clause-bytes g c = rw (c.in_ok-texts.ensures, c.deref.ensures.value) (canon_weighs c.args.records (texts_at c.order_of.new.records c.in_ok-order.order.items) c.requires.table.table c.in_ok-order.ensures.canon)
