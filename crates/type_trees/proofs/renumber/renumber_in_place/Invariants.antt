use Rattle.std.proofs.Common.{◌≡◌, ◌<◌, ◌^◌, ℕ, map, drop, length, get_or}
use Rattle.std.specs.List.{AllByRecursion, Contains}
use Rattle.cv_leaves.specs.Blank.{fill}
use Rattle.cv_leaves.specs.Checks.{places_of}
use Rattle.cv_leaves.specs.Place.{HasPlaces}
use Rattle.cv_leaves.specs.References.{reference_at, references}
use Rattle.type_trees.specs.Types.{NamesThere}
use Rattle.type_trees.specs.Table.{renumber, renumber_one, renumbered, AreNumbered}
use Rattle.type_trees.proofs.RenumberLaws.{AreUnwritten}
use Rattle.type_trees.proofs.renumber.renumber_in_place.Given as goal

-- once the places that are left are written, the record is the renumbered one
abbrev pub invariant-loop-place : goal.invariant-loop-place
invariant-loop-place l = record {
  rest : fill l.«record» (drop l.place-index l.places) (renumber (λ k. get_or l.numbers k 0) (map (reference_at l.initial.«record») (drop l.place-index l.places))) ≡ renumbered (λ k. get_or l.numbers k 0) l.initial.«record»;
  unwritten : AreUnwritten l.initial.«record» l.«record» (drop l.place-index l.places);
  has : HasPlaces l.«record» (places_of l.initial.«record»);
  within : (p : ℕ) → Contains (drop l.place-index l.places) p → Contains (places_of l.initial.«record») p;
  there : NamesThere (length l.numbers) (map (reference_at l.initial.«record») (drop l.place-index l.places)) → NamesThere (length l.numbers) (references l.initial.«record»);
  named : AreNumbered l.numbers (references l.initial.«record») → AreNumbered l.numbers (map (reference_at l.initial.«record») (drop l.place-index l.places));
  small : AllByRecursion (λ p. renumber_one (λ k. get_or l.numbers k 0) (reference_at l.initial.«record» p) < 2 ^ 32) (drop l.place-index l.places)
      → AllByRecursion (λ n. n < 2 ^ 32) (renumber (λ k. get_or l.numbers k 0) (references l.initial.«record»));
}
