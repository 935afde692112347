use Rattle.std.proofs.Common.{◌≡◌, ◌++◌, ℕ, List, length, map, string_bytes}
use Rattle.command_line.specs.List.{Leads}
use Rattle.command_line.proofs.list.push_paths.Given as goal

abbrev pub invariant-loop-left : goal.invariant-loop-left
invariant-loop-left l =
    (lines : List (List ℕ)) × Leads l.end l.list lines l.left × (map string_bytes l.paths.items ≡ map string_bytes l.initial.paths.items ++ lines)

abbrev pub decreases-loop-left : goal.decreases-loop-left
decreases-loop-left l = length l.left
