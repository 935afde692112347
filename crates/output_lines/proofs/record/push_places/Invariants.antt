use Rattle.std.proofs.Common.{◌≡◌, ◌≤◌, ◌+◌, ◌++◌, List, ℕ, length, string_bytes}
use Rattle.std.specs.List.{AllByRecursion, flat_map}
use Rattle.cv_leaves.specs.Place.{HasPlaces}
use Rattle.output_lines.specs.Record.{place_line}
use Rattle.output_lines.proofs.record.push_places.Given as goal

abbrev pub invariant-loop-place : goal.invariant-loop-place
invariant-loop-place g l = record {
  at : List ℕ;
  has : HasPlaces l.bytes at;
  text : string_bytes l.text ++ flat_map (place_line l.bytes) l.place-iterator ≡ string_bytes l.fn.text ++ flat_map (place_line l.bytes) at;
  fit : AllByRecursion (λ p. p + 8 ≤ length l.bytes) l.place-iterator;
}
