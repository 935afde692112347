use Rattle.std.proofs.Common.{◌≡◌, ◌+◌, ◌++◌, map, take}
use Rattle.tpi_records.specs.Header.{first_index}
use Rattle.pdbmerge_c.proofs.map_lists.push_indices.Given as goal

abbrev pub invariant-loop-position : goal.invariant-loop-position
invariant-loop-position l = l.indices.items ≡ l.initial.indices.items ++ map (λ p. first_index + p) (take l.position-index l.positions)
