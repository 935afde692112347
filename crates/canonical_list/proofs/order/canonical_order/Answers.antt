use Rattle.std.proofs.Common.{◌≡◌, ℕ, ap, arith, length, get_or, replicate, rules}
use Rattle.std.proofs.lemmas.List.{length-map, length-replicate, with_items_is}
use Rattle.type_trees.specs.Depth.{HasLevels}
use Rattle.type_trees.proofs.TreeLaws.{tree_there}
use Rattle.type_trees.proofs.DepthLaws.{levels_counted}
use Rattle.canonical_list.specs.Rows.{positions}
use Rattle.canonical_list.specs.Finish.{AtLevel}
use Rattle.canonical_list.proofs.LinkLaws.{zeros_small}
use Rattle.canonical_list.proofs.SortLaws.{bytes_by_positions}
use Rattle.canonical_list.proofs.FinishLaws.{LevelMade, can_renumber, level_inside, listing_canon, listing_few, listing_more, listing_none, listing_numbers, listing_order, moved_level}
use Rattle.canonical_list.proofs.order.canonical_order.Given.{Over}
use Rattle.canonical_list.proofs.order.canonical_order.Goals.{In_ok-collect, After-sort_level, After-drop-chained-inside-3}
use Rattle.canonical_list.proofs.order.canonical_order.Goals as goal

-- the records of the level became its rows
collected : (g : Over) (c : In_ok-collect g) → AtLevel c.args.depths.now c.loop-level.level (positions c.collect.new.rows.items)
collected g c = rw c.in_ok-chained.ensures at c.in_ok-collect.ensures.level

-- and stand in the order of their bytes
made : (g : Over) (c : After-sort_level g) → LevelMade c.loop-level.records c.collect.new.records c.args.depths.now c.loop-level.level (λ k. get_or c.loop-level.numbers.items k 0) (positions c.collect.new.rows.items) (positions c.sort_level.new.rows.items)
made g c = record {
  made = rw c.deref.ensures.value at c.in_ok-collect.ensures.made;
  level = rw c.in_ok-chained.ensures at c.in_ok-collect.ensures.level;
  moved = c.sort_level.ensures.moved;
  sorted = rw (bytes_by_positions c.collect.new.records c.sort_level.new.rows.items) c.sort_level.ensures.sorted;
}

-- there are as many levels as were counted
levels : (g : Over) (c : After-drop-chained-inside-3 g) → HasLevels c.args.records.now c.loop-level.level
levels g c =
    let table = c.args.records.now in
    let last : c.loop-level.level ≡ c.levels_of-levels.result = search rules in
    rw last (levels_counted table c.args.depths.now c.levels_of-levels.result (λ i inside. tree_there table (λ k. k) i c.requires.table.lower inside) c.requires.known.many c.requires.known.known.are c.levels_of-levels.ensures)

pub loop-level-init : goal.loop-level-init
loop-level-init g c =
    let zeros : c.in_ok-numbers.numbers.items ≡ replicate (length c.args.depths.now) 0 = search rules in
    rw c.in_ok-order.ensures.items (listing_none c.args.records.now c.args.depths.now c.in_ok-numbers.numbers.items (omega (arith, ap length zeros, length-replicate {A = ℕ} (length c.args.depths.now) 0, c.requires.known.many)) (zeros_small c.in_ok-numbers.numbers.items _ zeros))

pub collect-requires-clause-ready : goal.collect-requires-clause-ready
collect-requires-clause-ready g c = λ k inside deep.
    rw c.deref.ensures.value (can_renumber c.args.records.now c.loop-level.records c.args.places.now c.args.depths.now c.loop-level.level c.loop-level.order.items c.loop-level.numbers.items k c.requires.table c.requires.listed c.loop-level.invariant inside (rw c.in_ok-chained.ensures at deep))

pub sort_level-requires : goal.sort_level-requires
sort_level-requires g c =
    let at = goal.at.sort_level-requires g c in
    record { heads = at.In_ok-collect.in_ok-collect.ensures.heads }

pub number_rows-requires-clause-within : goal.number_rows-requires-clause-within
number_rows-requires-clause-within g c =
    let at = goal.at.number_rows-requires-clause-within g c in
    let here = made g at.After-sort_level in
    rw (c.deref-in-loop-level.ensures.value, c.deref_mut.ensures.value) (level_inside c.args.depths.now c.loop-level.level (length c.loop-level.numbers.items) c.sort_level.new.rows.items
    (moved_level c.args.depths.now c.loop-level.level (positions c.collect.new.rows.items) (positions c.sort_level.new.rows.items) here.level here.moved) (omega (arith, c.requires.known.many, c.loop-level.invariant.numbered)))

pub number_rows-requires-clause-few : goal.number_rows-requires-clause-few
number_rows-requires-clause-few g c =
    let at = goal.at.number_rows-requires-clause-few g c in
    let rows = c.sort_level.new.rows.items in
    let few = listing_few c.args.records.now c.loop-level.records c.collect.new.records c.args.depths.now c.loop-level.level c.loop-level.order.items c.loop-level.numbers.items (positions c.collect.new.rows.items) (positions rows) c.requires.table c.requires.short c.requires.known.many c.requires.known.known.are c.loop-level.invariant (made g at.After-sort_level) in
    rw c.deref-in-loop-level.ensures.value (omega (arith, few, length-map rows (λ p. p.position)))

pub loop-level-preserved : goal.loop-level-preserved
loop-level-preserved g c =
    let at = goal.at.loop-level-preserved g c in
    let rows = c.sort_level.new.rows.items in
    let before = c.loop-level.numbers.items in
    let done = c.in_ok-number_rows.ensures in
    let whole = with_items_is c.loop-level.numbers c.number_rows.new.numbers (search rules) in
    let order = rw c.deref-in-loop-level.ensures.value at done.order in
    let numbered = rw (c.deref-in-loop-level.ensures.value, c.deref_mut.ensures.value) at done.numbered in
    rw (whole, order) (listing_more c.args.records.now c.loop-level.records c.collect.new.records c.args.depths.now c.loop-level.level c.loop-level.order.items before c.number_rows.new.numbers (positions c.collect.new.rows.items) (positions rows)
    c.requires.table c.requires.short c.requires.known.many c.requires.known.known.are c.loop-level.invariant (made g at.After-sort_level) (rw (length-map rows (λ p. p.position)) numbered) (rw c.deref_mut.ensures.value at done.same) done.bounded)

pub returns-clause-order : goal.returns-clause-order
returns-clause-order g c =
    listing_order c.args.records.now c.loop-level.records c.args.depths.now c.loop-level.level c.loop-level.order.items c.loop-level.numbers.items c.requires.table (levels g c) c.loop-level.invariant

pub returns-clause-canon : goal.returns-clause-canon
returns-clause-canon g c =
    listing_canon c.args.records.now c.loop-level.records c.args.depths.now c.loop-level.level c.loop-level.order.items c.loop-level.numbers.items (levels g c) c.loop-level.invariant

pub returns-clause-numbers : goal.returns-clause-numbers
returns-clause-numbers g c =
    listing_numbers c.args.records.now c.loop-level.records c.args.depths.now c.loop-level.level c.loop-level.order.items c.loop-level.numbers.items (levels g c) c.loop-level.invariant

pub returns-clause-small : goal.returns-clause-small
returns-clause-small g c = λ k inside. c.loop-level.invariant.bounded k
