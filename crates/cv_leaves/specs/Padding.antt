-- The padding after a member of a field list ("CodeView Type Records").
use Rattle.std.specs.Prelude.{ℕ, ◌+◌, ◌-◌, ◌==◌, ◌&&◌, nat_lt, nat_le, not, Bool, true, List, [], ◌∷◌, length, slice_index, if◌then◌else◌}
use Rattle.byte_fields.specs.Check.{Check}
use Rattle.cv_leaves.specs.declared.fault.LeafFault.{LeafFault}
use Rattle.cv_leaves.specs.declared.fault.LeafFault.TheVariants.{Pad}

-- padding begins with a byte from 0xF0 to 0xFF
abbrev pub pads : ℕ → Bool
pads byte = nat_le 0xF0 byte && nat_le byte 0xFF

-- how many bytes of padding there are at `at`: the low four bits of its first byte
unfoldable pub padding_len : List ℕ → ℕ → ℕ
padding_len body at =
    if nat_lt at (length body) && pads (slice_index body at) then slice_index body at - 0xF0 else 0

-- there is no padding at `at`, or it counts its first byte and fits
unfoldable pub padding_holds : List ℕ → ℕ → Bool
padding_holds body at =
    if nat_lt at (length body)
    then not (slice_index body at == 0xF0) && nat_le (at + padding_len body at) (length body)
    else true

-- the check of the padding at `at`
abbrev pub padding_checks : List ℕ → ℕ → List (Check LeafFault)
padding_checks body at = record { holds = padding_holds body at; fault = Pad at } ∷ []
