-- The checks of a record and its places, from left to right.
use Rattle.std.specs.Prelude.{ℕ, ◌≡◌, ◌^◌, ◌<◌, false, List, [], ◌∷◌, ◌++◌, None, length, drop}
use Rattle.std.specs.Option.{option_map_or}
use Rattle.std.specs.List.{flat_map}
use Rattle.byte_fields.specs.Check.{Check, first_failing}
use Rattle.byte_fields.specs.Number.{number_at}
use Rattle.cv_leaves.specs.Leaf.{Leaf, leaf_of}
use Rattle.cv_leaves.specs.Part.{rest_start, stop_of, extent_checks, part_end, part_places, part_checks, each_part}
use Rattle.cv_leaves.specs.Field.{field_checks}
use Rattle.cv_leaves.specs.declared.leaf.Rest.{Rest}
use Rattle.cv_leaves.specs.declared.fault.LeafFault.{LeafFault}
use Rattle.cv_leaves.specs.declared.fault.LeafFault.TheVariants as fault

-- the kind of a record: the number after its length
unfoldable pub kind_of : List ℕ → ℕ
kind_of r = number_at 2 r 2

-- the body of a record: the bytes after its length and its kind
unfoldable pub body_of : List ℕ → List ℕ
body_of r = drop 4 r

-- the checks of the parts from `at` up to `stop`
abbrev pub checks_from : Rest → List ℕ → ℕ → ℕ → List (Check LeafFault)
checks_from rest body stop at = each_part (part_end rest body) (part_checks rest body) stop at

-- the places of the parts from `at` up to `stop`
abbrev pub places_from : Rest → List ℕ → ℕ → ℕ → List ℕ
places_from rest body stop at = each_part (part_end rest body) (part_places rest body) stop at

-- the checks of what follows the fixed places
unfoldable pub rest_checks : Rest → List ℕ → List (Check LeafFault)
rest_checks rest body =
    extent_checks rest body ++ checks_from rest body (stop_of rest body) (rest_start rest)

-- the places that follow the fixed ones
unfoldable pub rest_places : Rest → List ℕ → List ℕ
rest_places rest body = places_from rest body (stop_of rest body) (rest_start rest)

-- the checks of the type indices at fixed places
unfoldable pub fixed_checks : List ℕ → List ℕ → List (Check LeafFault)
fixed_checks body places = flat_map (λ p. field_checks body p 4) places

-- the checks of the fields of a leaf
abbrev pub leaf_checks : Leaf → List ℕ → List (Check LeafFault)
leaf_checks l body = fixed_checks body l.places ++ rest_checks l.rest body

-- the checks of a record, in order
unfoldable pub record_checks : List ℕ → List (Check LeafFault)
record_checks r =
    option_map_or (λ l. leaf_checks l (body_of r)) (leaf_of (kind_of r))
    (record { holds = false; fault = fault.Leaf (kind_of r) } ∷ [])

-- the places of a leaf
abbrev pub leaf_places : Leaf → List ℕ → List ℕ
leaf_places l body = l.places ++ rest_places l.rest body

-- the places of a record, in the order in which they are met
unfoldable pub places_of : List ℕ → List ℕ
places_of r = option_map_or (λ l. leaf_places l (body_of r)) (leaf_of (kind_of r)) []

-- the places of these parts can be told: those of the part at `base`,
-- and those of the parts from `next` on
pub record ArePlacesLeft (rest : Rest) (body : List ℕ) (base next stop : ℕ) : Type 0 where
  -- the body is short, so no place overflows
  pub short : length body < 2 ^ 17
  -- the part begins at a small offset
  pub base_near : base < 2 ^ 17
  -- so do the parts after it
  pub next_near : next < 2 ^ 17
  -- the parts after it pass their checks
  pub checked : first_failing (checks_from rest body stop next) ≡ None
