-- A name that a NUL ends, in a body.
use Rattle.std.specs.Prelude.{ℕ, ◌+◌, List, [], ◌∷◌, drop}
use Rattle.byte_fields.specs.Check.{Check}
use Rattle.byte_fields.specs.Name.{name_len, has_name}
use Rattle.cv_leaves.specs.declared.fault.LeafFault.{LeafFault}
use Rattle.cv_leaves.specs.declared.fault.LeafFault.TheVariants.{Name}

-- the offset at which the name at `at` ends, with its NUL
unfoldable pub name_end : List ℕ → ℕ → ℕ
name_end body at = at + name_len (drop at body) + 1

-- the check of the name at `at`
abbrev pub name_checks : List ℕ → ℕ → List (Check LeafFault)
name_checks body at = record { holds = has_name body at; fault = Name at } ∷ []
