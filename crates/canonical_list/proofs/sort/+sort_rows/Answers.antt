use Rattle.std.proofs.Common.{arith, rules}
use Rattle.std.proofs.lemmas.List.Sorted.{IsNonDecreasingBy-from_sort_by_key, IsPermutation-map, IsPermutation-trans}
use Rattle.canonical_list.specs.Rows.{positions}
use Rattle.canonical_list.proofs.SortLaws.{rows_rise, sorting_more, stretch_alike_in}
use Rattle.canonical_list.proofs.sort.+sort_rows.Goals as goal

pub sort_tied-returns-clause-moved : goal.sort_tied-returns-clause-moved
sort_tied-returns-clause-moved g t c = rw (← c.pass_shared-at.ensures.same) c.sort_rows.ensures.moved

pub sort_rows-sort_tied-requires : goal.sort_rows-sort_tied-requires
sort_rows-sort_tied-requires g t c κs within =
    let before = c.sort_unstable_by_key.new.self in
    let l = c.loop-start in
    let rising = rows_rise c.args.at c.args.rows.now c.args.run.now before c.sort_unstable_by_key.ensures.permutation c.requires.alike c.requires.heads
    (IsNonDecreasingBy-from_sort_by_key (λ p. p.head) _ c.sort_unstable_by_key.ensures.sorted (λ a n f k. search rules)) in (
      omega (arith, c.decreases),
      (
        search (rules, within),
        (
          stretch_alike_in c.args.at c.args.rows.now before l.run l.start c.run_end-end.result rising l.invariant c.run_end-end.ensures,
          omega (arith, c.requires.small),
        ),
      ),
    )

pub sort_rows-loop-start-preserved : goal.sort_rows-loop-start-preserved
sort_rows-loop-start-preserved g t c =
    let r = c.args.rows.now in
    let before = c.sort_unstable_by_key.new.self in
    let l = c.loop-start in
    let rising = rows_rise c.args.at r c.args.run.now before c.sort_unstable_by_key.ensures.permutation c.requires.alike c.requires.heads
    (IsNonDecreasingBy-from_sort_by_key (λ p. p.head) _ c.sort_unstable_by_key.ensures.sorted (λ a n f k. search rules)) in
    sorting_more c.args.at r before l.run c.sort_tied.new.run l.start c.run_end-end.result rising l.invariant c.run_end-end.ensures c.sort_tied.ensures.moved c.sort_tied.ensures.sorted

pub sort_rows-returns-clause-moved : goal.sort_rows-returns-clause-moved
sort_rows-returns-clause-moved g t c = IsPermutation-trans (positions c.args.run.now) (positions c.sort_unstable_by_key.new.self) (positions c.loop-start.run) (IsPermutation-map (λ p. p.position) c.args.run.now c.sort_unstable_by_key.new.self c.sort_unstable_by_key.ensures.permutation) c.loop-start.invariant.moved
