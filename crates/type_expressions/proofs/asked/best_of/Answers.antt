use Rattle.std.proofs.Common.{◌≡◌, ◌∷◌, arith, rules}
use Rattle.type_expressions.proofs.AskedLaws.{best_starts, best_goes, best_ends, next_checked}
use Rattle.type_expressions.proofs.asked.best_of.Goals as goal

pub loop-position-init : goal.loop-position-init
loop-position-init g c = record {
  left = search rules;
  best = λ trees are. best_starts c.args.query.now trees;
}

pub loop-position-preserved : goal.loop-position-preserved
loop-position-preserved g c =
    let so_far = c.loop-position.invariant in
    let r = c.in-Some.record.now in
    let split : c.loop-position.records ≡ r ∷ c.next.new.self = search rules in
    let next = next_checked c.args.types.now c.loop-position.position c.loop-position.records c.next.new.self r c.len-position-end.ensures.types so_far.left split in
    record {
      left = next.3;
      best = λ trees are.
          rw (c.or_better-best.ensures, c.found_at.ensures) (best_goes c.args.query.now c.args.types.now trees c.loop-position.position r c.loop-position.best are next.0 next.1 next.2 (so_far.best trees are));
    }

pub returns : goal.returns
returns g c = λ trees are.
    best_ends c.args.query.now c.args.types.now trees c.loop-position.position c.loop-position.best are (omega (arith, c.loop-position-test.false, c.loop-position.auto.position-end, c.len-position-end.ensures.value)) (c.loop-position.invariant.best trees are)
