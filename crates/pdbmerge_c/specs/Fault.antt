-- What a call says of its fault.
use Rattle.std.specs.Prelude.{ℕ, ◌≡◌, ◌≢◌, ◌<◌, ◌≤◌, ◌+◌, List, Option, Some, None, zero, suc, length, get_or, slice_get}
use Rattle.pdbmerge_c.specs.declared.fault.Fault.{Fault}

-- what stands for no input, and for the length of no name: the highest number of eight bytes
abbrev pub no_number : ℕ
no_number = 18446744073709551615

-- the number for the position of an input, or for none
abbrev pub input_code : Option ℕ → ℕ
input_code (Some input) = input
input_code None = no_number

-- the fault has this number, and names this input
pub record IsTold (fault : Fault) (number input : ℕ) : Type 0 where
  pub number_is : fault.number ≡ number
  pub input_is : fault.input ≡ input

-- the fault has the number that was returned; it names no input if all went well,
-- or if the fault is one of the call's own
pub record IsSaid (fault : Fault) (result : ℕ) : Type 0 where
  pub number_is : fault.number ≡ result
  pub none : result ≡ 0 → fault.input ≡ no_number
  pub room : result ≡ 100 → fault.input ≡ no_number
  pub settings : result ≡ 101 → fault.input ≡ no_number

-- what is told is the number of such a fault, and no input
pub record Tells {Why : Type 0} (IsFault : Why → Type 0) (number_of : Why → ℕ) (fault : Fault)
    : Type 0 where
  pub why : Why
  pub is_fault : IsFault why
  pub told : IsTold fault (number_of why) no_number

-- what is kept of a text, and how many bytes it has
pub record TextView : Type 0 where
  pub kept : List ℕ
  pub many : ℕ

-- a number of bytes, and then of as many more, up to the highest number
pub record IsCounted (old more new : ℕ) : Type 0 where
  pub none : more ≡ 0 → new ≡ old
  pub fits : old + more ≤ no_number → new ≡ old + more
  pub full : 0 < more → no_number < old + more → new ≡ no_number

-- a byte as it is kept: a space stands for a NUL
abbrev pub spaced : ℕ → ℕ
spaced zero = 32
spaced (suc byte) = suc byte

-- the bytes of a text were taken behind those that were there: all are counted, and those of the
-- first 235 are kept
pub record HasTaken (old new : TextView) (text : List ℕ) : Type 0 where
  pub counted : IsCounted old.many (length text) new.many
  pub same : (i : ℕ) → i < old.many → i < 235 → get_or new.kept i 0 ≡ get_or old.kept i 0
  pub next : (i : ℕ) → i < length text → old.many + i < 235
      → get_or new.kept (old.many + i) 0 ≡ spaced (get_or text i 0)

-- these bytes are the first 235 of a text that has so many bytes and no NUL, and then NULs
pub record AreFirst (kept : List ℕ) (many : ℕ) : Type 0 where
  pub front : (i : ℕ) → i < many → i < 235 → get_or kept i 0 ≢ 0
  pub back : (i : ℕ) → many ≤ i → get_or kept i 0 ≡ 0
  pub last : slice_get kept 235 ≡ Some 0

-- the text ends within its field, after as many bytes as it says that it has, or after 235 of them
abbrev pub IsEnded : Fault → Type 0
IsEnded fault = AreFirst fault.text fault.length
