use Rattle.std.proofs.Common.{◌≡◌, ◌≤◌, ◌<◌, ℕ, length, get_or}
use Rattle.type_table.proofs.maps.follow_map.Given as goal

abbrev pub invariant-loop-number : goal.invariant-loop-number
invariant-loop-number l = record {
  many : length l.map ≡ length l.initial.map;
  followed : (k : ℕ) → k < l.number-index → get_or l.map k 0 ≡ get_or l.numbers (get_or l.initial.map k 0) 0;
  kept : (k : ℕ) → l.number-index ≤ k → get_or l.map k 0 ≡ get_or l.initial.map k 0;
}
