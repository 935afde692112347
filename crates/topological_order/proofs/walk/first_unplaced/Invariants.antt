use Rattle.std.proofs.Common.{length, ◌-◌}
use Rattle.topological_order.specs.Walk.{IsPassed}
use Rattle.topological_order.proofs.walk.first_unplaced.Given as goal

abbrev pub invariant-loop-at : goal.invariant-loop-at
invariant-loop-at l = IsPassed l.marks l.row l.at

abbrev pub decreases-loop-at : goal.decreases-loop-at
decreases-loop-at l = length l.row - l.at
