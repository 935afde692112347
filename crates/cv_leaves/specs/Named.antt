-- The places at which a record names another record.
use Rattle.std.specs.Prelude.{ℕ, nat_lt, if◌then◌else◌, List, [], ◌∷◌, ◌++◌}
use Rattle.tpi_records.specs.Header.{first_index}
use Rattle.cv_leaves.specs.Checks.{places_of}
use Rattle.cv_leaves.specs.References.{reference_at}

-- the place, if the reference there names a record, and not a simple type
unfoldable pub named_at : ℕ → ℕ → List ℕ
named_at p to = if nat_lt to first_index then [] else p ∷ []

-- those of these places at which r names a record
unfoldable pub named_among : List ℕ → List ℕ → List ℕ
named_among r [] = []
named_among r (p ∷ ps) = named_at p (reference_at r p) ++ named_among r ps

-- the places at which r names a record
unfoldable pub named_places : List ℕ → List ℕ
named_places r = named_among r (places_of r)
