use Rattle.std.proofs.Common.{◌≡◌, ◌<◌, ◌++◌, ◌∷◌, ◌∙◌, [], ℕ, None, ap, get_or, length, arith, rules}
use Rattle.std.proofs.lemmas.List.Elements.{All-push}
use Rattle.canonical_list.specs.Rows.{HasHead, positions, row}
use Rattle.canonical_list.proofs.LinkLaws.{bound_of, bound_none, smaller}
use Rattle.canonical_list.proofs.FinishLaws.{collected_first, collected_next, next_here, all_collected, heads_made, rows_none, rows_more, row_put, row_untouched, still_ready, later_than, positions_more}
use Rattle.canonical_list.proofs.order.collect.Goals as goal

pub loop-candidate-init : goal.loop-candidate-init
loop-candidate-init g c =
    let n = c.newest-candidate in
    record {
      here = n.ensures.found;
      found = rw c.clear.ensures.items (collected_first c.args.depths.now c.args.level n.result n.ensures.last n.ensures.none);
      made = rw c.clear.ensures.items (rows_none c.args.records.now _);
      heads = rw c.clear.ensures.items (λ k d inside. absurd (omega (arith, inside)));
    }

pub put_row-requires-clause-ready : goal.put_row-requires-clause-ready
put_row-requires-clause-ready g c =
    let k = c.in-Some.position in
    let so_far = c.loop-candidate.invariant in
    let here = rw c.in-Some.is at so_far.here in
    let found = rw (c.in-Some.is, bound_of k) at so_far.found in
    let before = c.args.records.now in
    still_ready before c.loop-candidate.records c.args.places.now c.args.numbers.now k
    (row_untouched before c.loop-candidate.records _ (positions c.loop-candidate.rows.items) k so_far.made (later_than _ _ k _ found))
    (c.requires.ready k (omega (arith, here.0, c.requires.many)) here.1)

pub loop-candidate-smaller : goal.loop-candidate-smaller
loop-candidate-smaller g c =
    rw (c.in-Some.is, bound_of c.in-Some.position) (smaller _ c.in-Some.position c.older-candidate.result c.older-candidate.ensures.found)

pub loop-candidate-preserved : goal.loop-candidate-preserved
loop-candidate-preserved g c =
    let k = c.in-Some.position in
    let before = c.args.records.now in
    let depths = c.args.depths.now in
    let o = c.older-candidate in
    let so_far = c.loop-candidate.invariant in
    let here = rw c.in-Some.is at so_far.here in
    let found = rw (c.in-Some.is, bound_of k) at so_far.found in
    let inside : k < length before = omega (arith, here.0, c.requires.many) in
    let pushed = c.in_ok-push.ensures.items in
    let rows = c.loop-candidate.rows.items in
    let more : positions (rows ++ c.new-row.result ∷ []) ≡ positions rows ++ k ∷ [] =
    positions_more rows c.new-row.result ∙ ap (λ (i : ℕ). positions rows ++ i ∷ []) c.new-row.ensures.position in
    let f : ℕ → ℕ = λ i. get_or c.args.numbers.now i 0 in
    let late = later_than _ _ k _ found in
    let here_now = rw (c.put_row.ensures, row_put before c.loop-candidate.records f (positions c.loop-candidate.rows.items) k so_far.made inside late) at c.get.ensures in
    record {
      here = next_here depths c.args.level k o.result here.0 here.1 o.ensures.found;
      found = rw (pushed, more) (collected_next depths c.args.level k o.result (positions c.loop-candidate.rows.items) found here.0 here.1 o.ensures.found o.ensures.last o.ensures.none);
      made = rw (pushed, more, c.put_row.ensures) (rows_more before c.loop-candidate.records _ (positions c.loop-candidate.rows.items) k so_far.made inside late (c.requires.ready k inside here.1).checked);
      heads = rw pushed (All-push (λ p. HasHead 0 p.head (row before f p.position)) c.loop-candidate.rows.items c.new-row.result so_far.heads (rw (c.new-row.ensures.position, ← here_now) c.new-row.ensures.head));
    }

pub returns-clause-level : goal.returns-clause-level
returns-clause-level g c =
    let e : c.loop-candidate.candidate ≡ None = search rules in
    all_collected c.args.depths.now c.args.level (positions c.loop-candidate.rows.items) (rw (e, bound_none) at c.loop-candidate.invariant.found)

pub returns-clause-heads : goal.returns-clause-heads
returns-clause-heads g c = heads_made c.args.records.now c.loop-candidate.records (λ i. get_or c.args.numbers.now i 0) c.loop-candidate.rows.items c.loop-candidate.invariant.made c.loop-candidate.invariant.heads
