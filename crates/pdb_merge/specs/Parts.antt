-- Inputs whose parts are held against a limit.
use Rattle.std.specs.Prelude.{ℕ, ◌≡◌, List, Some, Result, Ok, slice_get}
use Rattle.byte_io.specs.At.{stable}
use Rattle.byte_io.specs.declared.inputs.InputFault.{InputFault}
use Rattle.file_types.specs.Bounded.{GivesLongPart}

-- no input that can be read has a directory or a stream 2 of more bytes than the limit
abbrev pub HaveShortParts : List (Result (List ℕ) InputFault) → ℕ → Type 0
HaveShortParts each limit =
    (i : ℕ) (bytes : List ℕ) → slice_get each i ≡ Some (Ok bytes)
    → GivesLongPart limit (stable bytes) → ⊥
