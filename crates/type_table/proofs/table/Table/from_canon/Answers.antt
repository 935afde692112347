use Rattle.std.proofs.Common.{◌≡◌, ◌∙◌, ◌+◌, ◌≤◌, [], get_or, length, arith, rules}
use Rattle.type_table.proofs.CanonTableLaws.{taken_more, next_fits, canon_short, whole_taken}
use Rattle.canonical_list.proofs.FinishLaws.{table_small}
use Rattle.cv_leaves.specs.Place.{IsChecked}
use Rattle.type_trees.proofs.NamedLaws.{listed_short}
use Rattle.type_table.proofs.KeptLaws.{knows_none}
use Rattle.type_table.proofs.table.Table.from_canon.Goals as goal

pub intern-requires-clause-few : goal.intern-requires-clause-few
intern-requires-clause-few g c =
    let canon = c.args.canon.now in
    let k = c.loop-position.position in
    let inside : k + 1 ≤ length canon = search rules in
    let at : c.get-bytes.result.now ≡ get_or canon k [] = rw c.canon.view_is at c.get-bytes.ensures in
    rw (c.loop-position.invariant, at) (next_fits canon k (canon_short canon c.len-position-end.ensures.canon) (omega (arith, inside)))

pub measure_new-requires-clause-table : goal.measure_new-requires-clause-table
measure_new-requires-clause-table g c =
    let canon = c.args.canon.now in
    let last : c.loop-position.position ≡ length canon = search rules in
    let whole : c.loop-position.records ≡ canon = whole_taken canon c.loop-position.records c.loop-position.position c.loop-position.invariant last in
    rw whole c.len-position-end.ensures.canon.table

pub measure_new-requires-clause-few : goal.measure_new-requires-clause-few
measure_new-requires-clause-few g c =
    let canon = c.args.canon.now in
    let last : c.loop-position.position ≡ length canon = search rules in
    let whole : c.loop-position.records ≡ canon = whole_taken canon c.loop-position.records c.loop-position.position c.loop-position.invariant last in
    rw whole (omega (arith, table_small canon c.len-position-end.ensures.canon.table (canon_short canon c.len-position-end.ensures.canon)))

pub measure_new-requires-clause-known : goal.measure_new-requires-clause-known
measure_new-requires-clause-known g c =
    let none : c.new-depths.result.items ≡ [] = search rules in
    rw none (knows_none c.loop-position.records)

pub invariant_of-result : goal.invariant_of-result
invariant_of-result g c =
    let canon = c.args.canon.now in
    let last : c.loop-position.position ≡ length canon = search rules in
    let whole : c.loop-position.records ≡ canon = whole_taken canon c.loop-position.records c.loop-position.position c.loop-position.invariant last in
    record { table = rw whole c.len-position-end.ensures.canon.table; short = rw whole (canon_short canon c.len-position-end.ensures.canon); measured = c.in_ok-measure_new.ensures.ok }

pub intern-requires-clause-listed : goal.intern-requires-clause-listed
intern-requires-clause-listed g c =
    let canon = c.args.canon.now in
    let k = c.loop-position.position in
    let inside : k + 1 ≤ length canon = search rules in
    let checked : IsChecked c.get-bytes.result.now = rw (c.get-bytes.ensures, c.canon.view_is) (c.len-position-end.ensures.canon.table.good.checked k (omega (arith, inside))) in
    rw c.deref.ensures.value (c.in_ok-list_places.ensures.listed (c.in_ok-list_places.ensures.found checked))

pub intern-requires-clause-short : goal.intern-requires-clause-short
intern-requires-clause-short g c =
    let canon = c.args.canon.now in
    let k = c.loop-position.position in
    let inside : k + 1 ≤ length canon = search rules in
    let checked : IsChecked c.get-bytes.result.now = rw (c.get-bytes.ensures, c.canon.view_is) (c.len-position-end.ensures.canon.table.good.checked k (omega (arith, inside))) in
    rw c.deref.ensures.value (listed_short c.get-bytes.result.now c.list_places.new.list.items checked (c.in_ok-list_places.ensures.listed (c.in_ok-list_places.ensures.found checked)))

pub loop-position-preserved : goal.loop-position-preserved
loop-position-preserved g c =
    let canon = c.args.canon.now in
    let k = c.loop-position.position in
    let inside : k + 1 ≤ length canon = search rules in
    let is : c.get-bytes.result.now ≡ get_or canon k [] = rw c.canon.view_is at c.get-bytes.ensures in
    let ok = c.in_ok-intern.ensures in
    taken_more canon c.loop-position.records c.intern.new.self k c.in_ok-intern.field-0 c.len-position-end.ensures.canon.table c.loop-position.invariant (omega (arith, inside)) (rw is at ok.holds) ok.at.0 (ok.at.1 ∙ is)
