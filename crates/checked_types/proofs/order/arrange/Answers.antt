use Rattle.std.proofs.Common.{arith}
use Rattle.topological_order.specs.Cycle.{IsCycleSet}
use Rattle.checked_types.specs.Graph.{graph_of}
use Rattle.checked_types.proofs.GraphLaws.{nodes_inside}
use Rattle.checked_types.proofs.CycleLaws.{cycle_inside}
use Rattle.checked_types.proofs.order.arrange.Goals as goal

pub topological_order-requires : goal.topological_order-requires
topological_order-requires g c = rw c.in_ok-graph.ensures.value (nodes_inside c.args.records.now c.requires.there)

pub to_indices-requires : goal.to_indices-requires
to_indices-requires g c =
    let cycle : IsCycleSet (graph_of c.args.records.now) c.in-Err-Cycle.nodes.items = rw (c.in-Err-Cycle.field-0-is, c.in_ok-graph.ensures.value) at c.in-Err-Cycle.ensures.fault in
    rw c.deref_mut.ensures.value (cycle_inside c.args.records.now c.in-Err-Cycle.nodes.items cycle (omega (arith, c.in_ok-graph.ensures.few)))
