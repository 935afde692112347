use Rattle.std.proofs.Common.{◌≡◌, ◌≤◌, ◌+◌, ◌*◌, drop, take, map, length}
use Rattle.std.specs.List.{concat}
use Rattle.checked_types.specs.Graph.{named_by}
use Rattle.checked_types.proofs.graph.graph_of.Given as goal

abbrev pub invariant-loop-bytes : goal.invariant-loop-bytes
invariant-loop-bytes g l = record {
  left : l.bytes-iterator ≡ drop (length l.graph) l.records;
  inside : length l.graph ≤ length l.records;
  rows : l.graph ≡ map named_by (take (length l.graph) l.records);
  short : 4 * length (concat l.graph) + length (concat (drop (length l.graph) l.records)) ≤ length (concat l.records);
}
