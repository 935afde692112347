use Rattle.std.proofs.Common.{◌≡◌, ◌≢◌, ◌<◌, ℕ, []}
use Rattle.topological_order.specs.Walk.{IsWalk, mark_at}
use Rattle.topological_order.specs.declared.walk.Mark.TheVariants.{New}
use Rattle.topological_order.proofs.walk.walk_all.Given as goal

abbrev pub invariant-loop-root : goal.invariant-loop-root
invariant-loop-root g l = record {
  walk : IsWalk l.graph l.walk.passed.items l.walk.marks.items [] l.walk.order.items;
  path : l.walk.path.items ≡ [];
  marked : (i : ℕ) → i < l.root → mark_at l.walk.marks.items i ≢ New;
}
