use Rattle.std.proofs.Common.{◌≡◌, [], length, replicate, get_or, ◌∙◌, arith, rules}
use Rattle.cv_leaves.specs.Place.{IsChecked}
use Rattle.cv_leaves.specs.References.{references}
use Rattle.type_trees.specs.Depth.{depth_above}
use Rattle.checked_types.specs.Order.{order_list}
use Rattle.type_trees.proofs.TreeLaws.{at_position}
use Rattle.checked_types.proofs.MeasureLaws.{measuring_starts, measuring_inside, measuring_names, measuring_small, measuring_more, all_measured}
use Rattle.checked_types.proofs.measure.measure.Goals as goal

pub loop-position-init : goal.loop-position-init
loop-position-init g c =
    let all = c.args.records.now in
    let zeros : c.in_ok-depths.depths.items ≡ replicate c.len-len.result 0 = search rules in
    rw (c.into_iter-position-iterator.ensures.into_iter_gives, c.positions-position-items.ensures, c.len-len.ensures.value)
    (record { measuring = measuring_starts all (order_list (length all) c.args.order.now) c.in_ok-depths.depths.items c.len-len.result c.len-len.ensures.value zeros; cursor = c.cursor-cursor.ensures })

pub record_at-bytes-requires : goal.record_at-bytes-requires
record_at-bytes-requires g c =
    let all = c.args.records.now in
    let so_far = c.loop-position in
    rw so_far.invariant.cursor (measuring_inside all (order_list (length all) c.args.order.now) so_far.position-iterator c.next.new.self so_far.depths.items c.in-Some.position c.requires.order so_far.invariant.measuring c.in-Some.ensures.steps)

pub depth_of-requires-clause-checked : goal.depth_of-requires-clause-checked
depth_of-requires-clause-checked g c =
    let all = c.args.records.now in
    let so_far = c.loop-position in
    let inside = measuring_inside all (order_list (length all) c.args.order.now) so_far.position-iterator c.next.new.self so_far.depths.items c.in-Some.position c.requires.order so_far.invariant.measuring c.in-Some.ensures.steps in
    rw (c.record_at-bytes.ensures.value, so_far.invariant.cursor) (at_position IsChecked all c.in-Some.position c.requires.types.checked inside)

pub depth_of-requires-clause-there : goal.depth_of-requires-clause-there
depth_of-requires-clause-there g c =
    let all = c.args.records.now in
    let so_far = c.loop-position in
    rw (c.deref-in-loop-position.ensures.value, c.record_at-bytes.ensures.value, so_far.invariant.cursor)
    (measuring_names all (order_list (length all) c.args.order.now) so_far.position-iterator c.next.new.self so_far.depths.items c.in-Some.position c.requires.order so_far.invariant.measuring c.in-Some.ensures.steps)

pub depth_of-requires-clause-bounded : goal.depth_of-requires-clause-bounded
depth_of-requires-clause-bounded g c =
    let all = c.args.records.now in
    let so_far = c.loop-position in
    let small = measuring_small all (order_list (length all) c.args.order.now) so_far.position-iterator so_far.depths.items c.requires.order so_far.invariant.measuring in
    rw c.deref-in-loop-position.ensures.value (λ k lt. omega (arith, small k lt, c.len-len.ensures.value, c.len-len.ensures.few))

pub loop-position-preserved : goal.loop-position-preserved
loop-position-preserved g c =
    let all = c.args.records.now in
    let so_far = c.loop-position in
    let d = c.depth_of.result in
    let depths = so_far.depths.items in
    let is : d ≡ depth_above (λ k. get_or depths k 0) (references (get_or all c.in-Some.position [])) = rw (c.deref-in-loop-position.ensures.value, c.record_at-bytes.ensures.value, so_far.invariant.cursor) at c.depth_of.ensures.value in
    record { cursor = c.record_at-bytes.ensures.same ∙ so_far.invariant.cursor; measuring = measuring_more all (order_list (length all) c.args.order.now) so_far.position-iterator c.next.new.self depths c.in-Some.position d c.requires.order so_far.invariant.measuring c.in-Some.ensures.steps is (rw c.deref-in-loop-position.ensures.value at c.depth_of.ensures.bound) }

pub returns-clause-depths : goal.returns-clause-depths
returns-clause-depths g c =
    let all = c.args.records.now in
    let so_far = c.loop-position in
    all_measured all (order_list (length all) c.args.order.now) so_far.position-iterator so_far.depths.items c.requires.order so_far.invariant.measuring (c.in-None.ensures.steps).0

pub returns-clause-low : goal.returns-clause-low
returns-clause-low g c =
    let all = c.args.records.now in
    let so_far = c.loop-position in
    let small = measuring_small all (order_list (length all) c.args.order.now) so_far.position-iterator so_far.depths.items c.requires.order so_far.invariant.measuring in
    λ k lt. omega (arith, small k lt, c.len-len.ensures.value, c.len-len.ensures.few)
