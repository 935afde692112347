use Rattle.std.proofs.Common.{◌≡◌, ◌+◌, [], ℕ, drop, length, get_or, refl, arith, rules}
use Rattle.std.proofs.lemmas.List.{drop_more, drop_all}
use Rattle.std.specs.Prelude.{IsTrue}
use Rattle.type_table.proofs.GuessLaws.{Became, becoming_starts, becoming_more, becoming_ends, became, all_left, first_left, next_left, offset_inside}
use Rattle.type_table.proofs.becomes.becomes.Goals as goal

pub loop-place-init : goal.loop-place-init
loop-place-init c = record {
  same = c.if-bytes-entry.false;
  left = all_left c.args.entry.now c.args.places.now c.requires.checked c.requires.listed;
  rest = becoming_starts (length c.args.numbers.now) (λ k. get_or c.args.numbers.now k 0) c.args.bytes.now c.args.entry.now c.args.places.now c.requires.checked c.requires.listed;
}

pub overflow_add-at : goal.overflow_add-at
overflow_add-at c =
    let i = c.loop-place.place-index in
    let ps = c.args.places.now in
    let first = first_left c.loop-place.from (get_or ps i 0) (drop i ps) (drop (i + 1) ps) (length c.args.entry.now) (drop_more ps i 0 c.loop-place-test.true) c.loop-place.invariant.left in
    omega (arith, first.1, c.from-place.ensures, c.requires.framed.short)

pub same_part-requires-clause-order : goal.same_part-requires-clause-order
same_part-requires-clause-order c =
    let i = c.loop-place.place-index in
    let ps = c.args.places.now in
    let first = first_left c.loop-place.from (get_or ps i 0) (drop i ps) (drop (i + 1) ps) (length c.args.entry.now) (drop_more ps i 0 c.loop-place-test.true) c.loop-place.invariant.left in
    omega (arith, first.0, c.from-place.ensures)

pub same_part-requires-clause-inside : goal.same_part-requires-clause-inside
same_part-requires-clause-inside c =
    let i = c.loop-place.place-index in
    let ps = c.args.places.now in
    let first = first_left c.loop-place.from (get_or ps i 0) (drop i ps) (drop (i + 1) ps) (length c.args.entry.now) (drop_more ps i 0 c.loop-place-test.true) c.loop-place.invariant.left in
    omega (arith, first.1, c.from-place.ensures, c.loop-place.invariant.same)

pub becomes_at-requires-clause-inside : goal.becomes_at-requires-clause-inside
becomes_at-requires-clause-inside c =
    let i = c.loop-place.place-index in
    let ps = c.args.places.now in
    let first = first_left c.loop-place.from (get_or ps i 0) (drop i ps) (drop (i + 1) ps) (length c.args.entry.now) (drop_more ps i 0 c.loop-place-test.true) c.loop-place.invariant.left in
    omega (arith, first.1, c.from-place.ensures, c.loop-place.invariant.same)

pub overflow_add-from : goal.overflow_add-from
overflow_add-from c =
    let i = c.loop-place.place-index in
    let ps = c.args.places.now in
    let first = first_left c.loop-place.from (get_or ps i 0) (drop i ps) (drop (i + 1) ps) (length c.args.entry.now) (drop_more ps i 0 c.loop-place-test.true) c.loop-place.invariant.left in
    omega (arith, first.1, c.from-place.ensures, c.requires.framed.short)

pub loop-place-preserved : goal.loop-place-preserved
loop-place-preserved c =
    let i = c.loop-place.place-index in
    let ps = c.args.places.now in
    let p = get_or ps i 0 in
    let x = c.args.bytes.now in
    let y = c.args.entry.now in
    let many = length c.args.numbers.now in
    let f : ℕ → ℕ = λ k. get_or c.args.numbers.now k 0 in
    let so_far = c.loop-place.invariant in
    let split = drop_more ps i 0 c.loop-place-test.true in
    let bytes = rw c.from-place.ensures at (c.if-not-same_part.ensures refl) in
    let known = rw c.from-place.ensures at (c.if-not-becomes_at.ensures.there refl) in
    let number = rw c.from-place.ensures at (c.if-not-becomes_at.ensures.value refl) in
    record {
      same = so_far.same;
      left = rw c.from-place.ensures (next_left c.loop-place.from p (drop i ps) (drop (i + 1) ps) (length y) split so_far.left);
      rest = rw c.from-place.ensures (becoming_more many f x y c.loop-place.from p (drop i ps) (drop (i + 1) ps) split bytes known number so_far.rest);
    }

pub same_part-requires-2-clause-order : goal.same_part-requires-2-clause-order
same_part-requires-2-clause-order c = offset_inside c.loop-place.from (drop c.loop-place.place-index c.args.places.now) (length c.args.entry.now) c.loop-place.invariant.left

-- a record whose every part is that of the entry becomes the entry
whole : (c : goal.After-same_part-2) → IsTrue c.same_part-2.result → Became (length c.args.numbers.now) (λ k. get_or c.args.numbers.now k 0) c.args.bytes.now c.args.entry.now
whole c same =
    let so_far = c.loop-place.invariant in
    let many = length c.args.numbers.now in
    let f : ℕ → ℕ = λ k. get_or c.args.numbers.now k 0 in
    let i = c.loop-place.place-index in
    let none : drop i c.args.places.now ≡ [] = drop_all i c.args.places.now (search (rules, c.loop-place-test.false)) in
    let rest = becoming_ends many f c.args.bytes.now c.args.entry.now c.loop-place.from (drop i c.args.places.now) none so_far.same (c.same_part-2.ensures same) so_far.rest in
    became many f c.args.bytes.now c.args.entry.now c.requires.checked (λ i. omega (arith, c.type_inv.bytes i)) (λ i. omega (arith, c.type_inv.entry i)) so_far.same rest

pub returns-clause-same : goal.returns-clause-same
returns-clause-same c same = (whole c same).same

pub returns-clause-checked : goal.returns-clause-checked
returns-clause-checked c same = (whole c same).checked

pub returns-clause-there : goal.returns-clause-there
returns-clause-there c same = (whole c same).there
