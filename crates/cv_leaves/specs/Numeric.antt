-- Numeric leaves ("CodeView Type Records").
use Rattle.std.specs.Prelude.{ℕ, zero, suc, ◌+◌, ◌==◌, ◌||◌, ◌&&◌, nat_lt, nat_le, Bool, List, [], ◌∷◌, ◌++◌, length, if◌then◌else◌}
use Rattle.byte_fields.specs.Check.{Check}
use Rattle.byte_fields.specs.Number.{number_at}
use Rattle.cv_leaves.specs.declared.fault.LeafFault.{LeafFault}
use Rattle.cv_leaves.specs.declared.fault.LeafFault.TheVariants.{Numeric}

-- how many bytes a numeric leaf has if it begins with this number; 0 if no numeric leaf does
abbrev pub numeric_len : ℕ → ℕ
numeric_len n =
    if nat_lt n 0x8000 then 2
    else if n == 0x8000 then 3
    else if n == 0x8001 || n == 0x8002 then 4
    else if n == 0x8003 || n == 0x8004 then 6
    else if n == 0x8009 || n == 0x800A then 10
    else 0

-- the offset at which the numeric leaf at `at` ends
unfoldable pub numeric_end : List ℕ → ℕ → ℕ
numeric_end body at = at + numeric_len (number_at 2 body at)

-- there is a known numeric leaf at `at`, and it fits
unfoldable pub has_numeric : List ℕ → ℕ → Bool
has_numeric body at =
    nat_le (at + 2) (length body)
    && (nat_lt 0 (numeric_len (number_at 2 body at)) && nat_le (numeric_end body at) (length body))

-- the check of the numeric leaf at `at`
abbrev pub numeric_checks : List ℕ → ℕ → List (Check LeafFault)
numeric_checks body at = record { holds = has_numeric body at; fault = Numeric at } ∷ []

-- the offset at which the last of some numeric leaves ends, where the first is at `at`
unfoldable pub numerics_end : ℕ → List ℕ → ℕ → ℕ
numerics_end zero body at = at
numerics_end (suc n) body at = numerics_end n body (numeric_end body at)

-- the checks of some numeric leaves, where the first is at `at`
unfoldable pub numerics_checks : ℕ → List ℕ → ℕ → List (Check LeafFault)
numerics_checks zero body at = []
numerics_checks (suc n) body at =
    numeric_checks body at ++ numerics_checks n body (numeric_end body at)
