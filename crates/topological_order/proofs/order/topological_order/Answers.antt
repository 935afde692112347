use Rattle.std.proofs.Common.{◌≡◌, ◌<◌, [], sym, length, arith, inl, inr}
use Rattle.std.proofs.lemmas.Bool.{cases_lt, eqb-true, eqb-false}
use Rattle.std.proofs.lemmas.List.{nil_from_length}
use Rattle.topological_order.proofs.OrderLaws.{walk_orders, walk_catches}
use Rattle.topological_order.proofs.order.topological_order.Goals as goal

pub returns-then-not-is_empty-clause-fault : goal.returns-then-not-is_empty-clause-fault
returns-then-not-is_empty-clause-fault g c =
    let w = c.in_ok-walk.walk in
    let nodes = c.in_ok-nodes.nodes in
    let some : 0 < length nodes.items = elim (cases_lt 0 (length nodes.items)) [
      | inl lt ↦ lt
      | inr le ↦ absurd (eqb-false nodes.len 0 (sym c.if-not-is_empty.ensures) (omega (arith, nodes.ok.0, le)))
    ] in
    walk_catches c.args.graph.now w.passed.items w.marks.items w.order.items nodes.items c.in_ok-walk.ensures.walk c.in_ok-walk.ensures.marked (rw c.deref.ensures.value at c.in_ok-nodes.ensures) some

pub returns-clause-value : goal.returns-clause-value
returns-clause-value g c =
    let w = c.in_ok-walk.walk in
    let nodes = c.in_ok-nodes.nodes in
    let none : nodes.items ≡ [] = nil_from_length nodes.items (omega (arith, nodes.ok.0, eqb-true nodes.len 0 (sym c.if-not-is_empty.ensures))) in
    walk_orders c.args.graph.now w.passed.items w.marks.items w.order.items nodes.items c.in_ok-walk.ensures.walk c.in_ok-walk.ensures.marked (rw c.deref.ensures.value at c.in_ok-nodes.ensures) none
