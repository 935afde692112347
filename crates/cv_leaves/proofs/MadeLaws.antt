-- What is known of a record when all its checks were made.
use Rattle.std.proofs.Common.{rules}
use Rattle.std.specs.Prelude.{ℕ, ◌≤◌, List, length, Result, Ok, Err, IsOk, IfOk}
use Rattle.byte_fields.specs.Check.{Makes}
use Rattle.cv_leaves.specs.Checks.{record_checks, places_of}
use Rattle.cv_leaves.specs.Place.{HasPlaces}
use Rattle.cv_leaves.specs.declared.fault.LeafFault.{LeafFault}
use Rattle.cv_leaves.proofs.FoundLaws.{places_found}
use Rattle.cv_leaves.proofs.HoldLaws.{not_refused}

-- a record that is accepted has places
pub made_places : {A : Type 0} (r : List ℕ) (answer : Result A LeafFault) → 4 ≤ length r → Makes answer (record_checks r) → IfOk answer (λ _. (places : List ℕ) × HasPlaces r places)
made_places r (Ok value) long made = (places_of r, places_found r long made)
made_places r (Err fault) long made = tt

-- a record that has places is accepted
pub made_ok : {A : Type 0} (r : List ℕ) (answer : Result A LeafFault) → Makes answer (record_checks r) → (places : List ℕ) → HasPlaces r places → IsOk answer
made_ok r (Ok value) made places has = search rules
made_ok r (Err fault) made places has = absurd (not_refused r places fault has made)
