-- What reading each of several inputs gives.
use Rattle.std.specs.Prelude.{ℕ, ◌≡◌, ◌<◌, Bool, false, List, Option, Some, Result, Ok, Err, map, slice_get}
use Rattle.byte_io.specs.At.{Bytes, stable}
use Rattle.byte_io.specs.declared.inputs.InputFault.{InputFault}
use Rattle.byte_io.specs.declared.inputs.Opened.{Opened}
use Rattle.byte_io.specs.declared.inputs.Opened.TheVariants.{Whole, At}

-- every input can be read, and these are the bytes of each
abbrev pub Give : Option (List (Result (List ℕ) InputFault)) → List (List ℕ) → Type 0
Give known files = known ≡ Some (map Ok files)

-- the first `end` inputs can be read
abbrev pub CanRead : List (Result (List ℕ) InputFault) → ℕ → Type 0
CanRead each end = (i : ℕ) → i < end → (bytes : List ℕ) × (slice_get each i ≡ Some (Ok bytes))

-- this input is the first that cannot be read, and this is why
abbrev pub IsFirstUnread : List (Result (List ℕ) InputFault) → ℕ → InputFault → Type 0
IsFirstUnread each input fault = CanRead each input × (slice_get each input ≡ Some (Err fault))

-- what is known of the bytes of an input that was opened
abbrev pub opened_bytes : {F : Type 0} → (F → Bytes) → Opened F → Bytes
opened_bytes bytes (Whole file) = stable file.now
opened_bytes bytes (At input) = bytes input

-- whether a read of an input that was opened failed; those of bytes in memory never fail
abbrev pub is_opened_broken : {F : Type 0} → (F → Bool) → Opened F → Bool
is_opened_broken is_broken (Whole file) = false
is_opened_broken is_broken (At input) = is_broken input

-- an input that was opened has these bytes
abbrev pub HasBytes : {F : Type 0} → (F → Bytes) → Opened F → List ℕ → Type 0
HasBytes bytes opened given = opened_bytes bytes opened ≡ stable given

-- what may come of opening an input, and of reading it to its end
pub record Outcomes : Type 1 where
  -- opening it may give these bytes
  pub opens : Bytes → Type 0
  -- reading it may give these bytes
  pub gives : List ℕ → Type 0
  -- either may be refused with this fault
  pub refuses : InputFault → Type 0

-- an input in memory gives its bytes, and is never refused
abbrev pub in_memory : List ℕ → Outcomes
in_memory file =
    record {
      opens = λ bytes. bytes ≡ stable file;
      gives = λ given. given ≡ file;
      refuses = λ fault. ⊥;
    }

-- nothing is told of what may come of an input
abbrev pub untold : Outcomes
untold =
    record {
      opens = λ bytes. Unit {0};
      gives = λ file. Unit {0};
      refuses = λ fault. Unit {0};
    }
