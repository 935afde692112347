use Rattle.std.proofs.Common.{◌≡◌, ◌∙◌, ℕ, List, [], length, replicate, get_or, ap, subst, arith}
use Rattle.cv_leaves.specs.Place.{IsChecked}
use Rattle.cv_leaves.specs.References.{references}
use Rattle.type_trees.specs.Table.{AreNumbered}
use Rattle.type_table.specs.Merge.{IsPut}
use Rattle.type_table.proofs.OrderedLaws.{all_zeros, adding_starts, adding_next, adding_checked, adding_numbered, adding_few, adding_more, all_added, added_numbers}
use Rattle.type_table.proofs.adding.add_in_order.Goals as goal

pub loop-position-init : goal.loop-position-init
loop-position-init g c =
    let zeros : c.resize.new.self.items ≡ replicate c.len-many.result 0 = all_zeros c.clear.new.self.items c.resize.new.self.items c.len-many.result _ c.clear.ensures.items c.clear.ensures.len c.in_ok-resize.ensures.items in
    rw c.into_iter-position-iterator.ensures.into_iter_gives
    (record { adding = adding_starts c.args.types.now c.in_order-order.result c.args.records.now c.len-many.result c.resize.new.self.items c.requires.table c.requires.short c.len-many.ensures.short c.in_order-order.ensures.types c.in_order-order.ensures.order c.len-many.ensures.value zeros; cursor = c.cursor-cursor.ensures ∙ c.records.ensures })

pub record_at-record-requires : goal.record_at-record-requires
record_at-record-requires g c =
    let so_far = c.loop-position in
    rw so_far.invariant.cursor (adding_next c.args.types.now so_far.position-iterator c.next.new.self c.args.records.now so_far.records so_far.numbers.items c.in-Some.position so_far.invariant.adding c.in-Some.ensures.steps).0

pub put_record-requires-clause-few : goal.put_record-requires-clause-few
put_record-requires-clause-few g c =
    let so_far = c.loop-position in
    let read : c.record_at-record.result.now ≡ get_or c.args.types.now c.in-Some.position [] = subst (λ (rs : List (List ℕ)). c.record_at-record.result.now ≡ get_or rs c.in-Some.position []) so_far.invariant.cursor c.record_at-record.ensures.value in
    omega (arith, ap length read, adding_few c.args.types.now so_far.position-iterator c.next.new.self c.args.records.now so_far.records so_far.numbers.items c.in-Some.position so_far.invariant.adding c.in-Some.ensures.steps)

pub unreachable-requires : goal.unreachable-requires
unreachable-requires g c =
    let so_far = c.loop-position in
    let a = so_far.invariant.adding in
    let read : c.record_at-record.result.now ≡ get_or c.args.types.now c.in-Some.position [] = subst (λ (rs : List (List ℕ)). c.record_at-record.result.now ≡ get_or rs c.in-Some.position []) so_far.invariant.cursor c.record_at-record.ensures.value in
    let numbered : AreNumbered so_far.numbers.items (references c.record_at-record.result.now) = rw read
    (adding_numbered c.args.types.now so_far.position-iterator c.next.new.self c.args.records.now so_far.records so_far.numbers.items c.in-Some.position a c.in-Some.ensures.steps) in
    let next = adding_next c.args.types.now so_far.position-iterator c.next.new.self c.args.records.now so_far.records so_far.numbers.items c.in-Some.position a c.in-Some.ensures.steps in
    let checked : IsChecked c.record_at-record.result.now = rw read (adding_checked c.args.types.now so_far.position-iterator c.args.records.now so_far.records so_far.numbers.items c.in-Some.position a next.0) in
    absurd (rw c.in_default.is at (c.in_ok-found.ensures.all checked (rw c.deref.ensures.value numbered)))

pub loop-position-preserved : goal.loop-position-preserved
loop-position-preserved g c =
    let so_far = c.loop-position in
    let read : c.record_at-record.result.now ≡ get_or c.args.types.now c.in-Some.position [] = subst (λ (rs : List (List ℕ)). c.record_at-record.result.now ≡ get_or rs c.in-Some.position []) so_far.invariant.cursor c.record_at-record.ensures.value in
    let put : IsPut so_far.records c.put_record.new.records so_far.numbers.items (get_or c.args.types.now c.in-Some.position []) c.in-Some-2.found = rw (c.deref.ensures.value, read) at (rw c.in-Some-2.is at c.in_ok-found.ensures.put) in
    record {
      adding = adding_more c.args.types.now so_far.position-iterator c.next.new.self c.args.records.now so_far.records c.put_record.new.records so_far.numbers.items c.in-Some.position c.in-Some-2.found
          so_far.invariant.adding c.in-Some.ensures.steps put;
      cursor = c.record_at-record.ensures.same ∙ so_far.invariant.cursor;
    }

pub returns-clause-added : goal.returns-clause-added
returns-clause-added g c =
    let so_far = c.loop-position in
    all_added c.args.types.now so_far.position-iterator c.args.records.now so_far.records so_far.numbers.items so_far.invariant.adding (c.in-None.ensures.steps).0

pub returns-clause-numbers : goal.returns-clause-numbers
returns-clause-numbers g c =
    let so_far = c.loop-position in
    added_numbers c.args.types.now so_far.position-iterator c.args.records.now so_far.records so_far.numbers.items so_far.invariant.adding (c.in-None.ensures.steps).0

pub returns-clause-light : goal.returns-clause-light
returns-clause-light g c = omega (arith, c.loop-position.invariant.adding.light, c.len-many.ensures.short)
