-- A field of a body.
use Rattle.std.specs.Prelude.{ℕ, ◌+◌, nat_le, List, [], ◌∷◌, length}
use Rattle.byte_fields.specs.Check.{Check}
use Rattle.cv_leaves.specs.declared.fault.LeafFault.{LeafFault}
use Rattle.cv_leaves.specs.declared.fault.LeafFault.TheVariants.{Body}

-- the field of `len` bytes at `at` fits the body
abbrev pub field_checks : List ℕ → ℕ → ℕ → List (Check LeafFault)
field_checks body at len = record { holds = nat_le (at + len) (length body); fault = Body at } ∷ []
