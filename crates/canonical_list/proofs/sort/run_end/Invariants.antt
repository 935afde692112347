use Rattle.std.proofs.Common.{◌≡◌, ◌<◌, ◌≤◌, ℕ, get_or}
use Rattle.canonical_list.specs.declared.row.Row.{Row}
use Rattle.canonical_list.proofs.sort.run_end.Given as goal

abbrev pub invariant-loop-end : goal.invariant-loop-end
invariant-loop-end l = (k : ℕ) (d : Row) → l.start ≤ k → k < l.end → (get_or l.run k d).head ≡ (get_or l.run l.start d).head
