-- How a source is read to its end.
use Rattle.std.specs.Prelude.{ℕ, ◌≡◌, ◌<◌, ◌≤◌, Bool, true, List, ◌++◌, length, Option}
use Rattle.std.specs.Io.KnownBytes.{Consumes, IsAtEnd}
use Rattle.byte_io.specs.declared.input.ReadFault.{ReadFault}
use Rattle.byte_io.specs.declared.input.ReadFault.TheVariants.{Read, TooLong, Memory}

-- the source had just these bytes left, and they are at most `limit` bytes
pub record GivesAll (old new : Option (List ℕ)) (limit : ℕ) (bytes : List ℕ) : Type 0 where
  pub came : Consumes old new bytes
  pub ended : IsAtEnd new
  pub short : length bytes ≤ limit

-- this is why the source is not read to its end: it is broken, or more bytes came than the limit
-- allows
abbrev pub IsNotRead : Option (List ℕ) → Option (List ℕ) → Bool → ℕ → ReadFault → Type 0
IsNotRead old new broken limit Read = broken ≡ true
IsNotRead old new broken limit TooLong =
    (bytes : List ℕ) × (limit < length bytes) × Consumes old new bytes
IsNotRead old new broken limit Memory = ⊥

-- at most `limit` bytes have come from the source
abbrev pub HasGiven : Option (List ℕ) → Option (List ℕ) → ℕ → Type 0
HasGiven old new limit = (bytes : List ℕ) × (length bytes ≤ limit) × Consumes old new bytes

-- `count` bytes came from the source, and they stand behind those that the buffer had; 0 bytes are
-- its end
pub record GivesMore (old new : Option (List ℕ)) (limit : ℕ) (before after : List ℕ) (count : ℕ)
    : Type 0 where
  pub bytes : List ℕ
  pub came : Consumes old new bytes
  pub joined : after ≡ before ++ bytes
  pub counted : length bytes ≡ count
  pub short : length after ≤ limit
  pub ended : count ≡ 0 → IsAtEnd new
