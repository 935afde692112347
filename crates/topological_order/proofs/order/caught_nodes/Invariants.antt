use Rattle.std.proofs.Common.{◌≡◌, take}
use Rattle.topological_order.specs.Walk.{AreCaught}
use Rattle.topological_order.proofs.order.caught_nodes.Given as goal

abbrev pub invariant-loop-mark : goal.invariant-loop-mark
invariant-loop-mark g l = record {
  caught : AreCaught (take l.mark-index l.marks) l.nodes.items;
  node : l.node ≡ l.mark-index;
}
