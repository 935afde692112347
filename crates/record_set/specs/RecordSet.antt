-- Records, each with the places at which it names others.
use Rattle.std.specs.Prelude.{ℕ, ◌≡◌, ◌*◌, ◌<◌, ◌≤◌, List, [], length, map, get_or}
use Rattle.cv_leaves.specs.Named.{named_places}

-- these are the places at which the records name others, record by record
pub record HasNamedPlaces (records places : List (List ℕ)) : Type 0 where
  pub listed : places ≡ map named_places records
  -- each place has four bytes of its own
  pub fit :
      (k : ℕ) → k < length records
      → 4 * length (named_places (get_or records k [])) ≤ length (get_or records k [])
