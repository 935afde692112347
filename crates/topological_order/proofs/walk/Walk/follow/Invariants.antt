use Rattle.std.proofs.Common.{◌+◌, ◌*◌, length}
use Rattle.topological_order.specs.Walk.{IsWalk, StayMarked, new_count}
use Rattle.topological_order.proofs.walk.Walk.follow.Given as goal

abbrev pub invariant-loop-top : goal.invariant-loop-top
invariant-loop-top g l = record {
  walk : IsWalk l.graph l.self.passed.items l.self.marks.items l.self.path.items l.self.order.items;
  marked : StayMarked l.fn.self.marks.items l.self.marks.items;
}

abbrev pub decreases-loop-top : goal.decreases-loop-top
decreases-loop-top g l = 2 * new_count l.self.marks.items + length l.self.path.items
