use Rattle.std.proofs.Common.{◌≡◌, ◌≤◌, ◌+◌, ◌++◌, map, length}
use Rattle.std.specs.List.{AllByRecursion}
use Rattle.cv_leaves.specs.References.{reference_at}
use Rattle.checked_types.specs.Graph.{positions_in, named_by}
use Rattle.checked_types.proofs.graph.list_named.Given as goal

abbrev pub invariant-loop-place : goal.invariant-loop-place
invariant-loop-place g l = record {
  rest : l.named.items ++ positions_in (map (reference_at l.bytes) l.place-iterator) ≡ named_by l.bytes;
  fit : AllByRecursion (λ p. p + 8 ≤ length l.bytes) l.place-iterator;
}
