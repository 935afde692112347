use Rattle.std.proofs.Common.{length}
use Rattle.type_table.proofs.FramedLaws.{IsAddingFramed}
use Rattle.type_table.proofs.adding.add_framed.Given as goal

abbrev pub invariant-loop-places : goal.invariant-loop-places
invariant-loop-places g l = IsAddingFramed l.bytes l.left l.initial.records l.records l.numbers.items

abbrev pub decreases-loop-places : goal.decreases-loop-places
decreases-loop-places g l = length l.left
