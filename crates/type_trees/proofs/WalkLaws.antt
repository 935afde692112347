-- Steps of a walk over the places of a record, or over a list.
use Rattle.std.proofs.Common.{◌≡◌, ◌≤◌, ◌+◌, ℕ, List, ◌∷◌, length}
use Rattle.std.specs.List.{AllByRecursion}
use Rattle.cv_leaves.specs.Checks.{places_of}
use Rattle.cv_leaves.specs.Place.{HasPlaces}
use Rattle.cv_leaves.proofs.HoldLaws.{places_met}
use Rattle.cv_leaves.proofs.PlaceLaws.{places_fit}

-- the four bytes at each place of a record lie within the record
pub own_fit : (r places : List ℕ) → HasPlaces r places → (places ≡ places_of r) × AllByRecursion (λ p. p + 8 ≤ length r) places
own_fit r places has = (places_met r places has, places_fit r places has)

-- what holds of each element holds of the first and of the others
pub each_other : {X : Type 0} (P : X → Type 0) (x : X) (left others : List X) → left ≡ x ∷ others → AllByRecursion P left → P x × AllByRecursion P others
each_other P x left others split each = rw split at each
