use Rattle.std.proofs.Common.{◌≡◌, ◌≤◌, ◌+◌, ◌++◌, List, ℕ, length, map}
use Rattle.std.specs.List.{AllByRecursion}
use Rattle.cv_leaves.specs.Place.{HasPlaces}
use Rattle.pdbmerge_c.specs.References.{reference_in}
use Rattle.pdbmerge_c.proofs.references.push_references.Given as goal

abbrev pub invariant-loop-place : goal.invariant-loop-place
invariant-loop-place l = record {
  at : List ℕ;
  has : HasPlaces l.bytes at;
  listed : l.found.items ++ map (reference_in l.bytes) l.place-iterator ≡ l.fn.found.items ++ map (reference_in l.bytes) at;
  fit : AllByRecursion (λ p. p + 8 ≤ length l.bytes) l.place-iterator;
}
