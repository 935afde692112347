-- The fault of one input of a merge, as far as this input goes.
use Rattle.std.specs.Prelude.{ℕ, ◌≡◌, ◌≢◌, ◌⊎◌, ◌+◌, List, Some, Result, Ok, Err, slice_get}
use Rattle.byte_io.specs.At.{Bytes, stable}
use Rattle.byte_io.specs.Inputs.{CanRead}
use Rattle.byte_io.specs.declared.input.ReadFault.TheVariants as reads
use Rattle.byte_io.specs.declared.inputs.InputFault.{InputFault}
use Rattle.byte_io.specs.declared.inputs.InputFault.TheVariants as inputs
use Rattle.file_types.specs.Read.{HasPdbFault}
use Rattle.pdb_merge.specs.Fault.{AddNamesFault, merge_from_add, merge_from_input}
use Rattle.pdb_merge.specs.Union.{IsAddFault}
use Rattle.pdb_merge.specs.declared.fault.AddFault.TheVariants as add
use Rattle.pdb_merge.specs.declared.fault.MergeFault.{MergeFault}
use Rattle.pdb_merge.specs.declared.fault.MergeFault.TheVariants as merge
use Rattle.pdb_merge.specs.declared.input.OwnFault.{OwnFault}
use Rattle.pdb_merge.specs.declared.input.OwnFault.TheVariants.{Unread, Of}

-- the fault of the input at this position, as a fault of merging
abbrev pub merge_from_own : {A : Type 0} → ℕ → OwnFault A → MergeFault A
merge_from_own input (Unread fault) = merge_from_input input fault
merge_from_own input (Of fault) = merge_from_add input fault

-- the file is not refused: it was not read, or the types are too large, or memory ran out
abbrev pub IsNotRefused : {A : Type 0} → OwnFault A → Type 0
IsNotRefused (Of (add.Refused fault)) = ⊥
IsNotRefused _ = Unit {0}

-- a fault of reading: an input was not read, for a fault that is not out of memory; or memory ran
-- out
abbrev pub IsOfReading : {A : Type 0} → MergeFault A → Type 0
IsOfReading (merge.Input file fault) = fault ≢ inputs.Read reads.Memory
IsOfReading merge.Memory = Unit {0}
IsOfReading _ = ⊥

-- out of memory is never inside another fault of a file
abbrev pub OwnNamesFault : {A : Type 0} → OwnFault A → Type 0
OwnNamesFault (Unread fault) = Unit {0}
OwnNamesFault (Of fault) = AddNamesFault fault

-- the inputs before this one can be read, and these are the bytes of this one
abbrev pub ReadsInput : List (Result (List ℕ) InputFault) → ℕ → Bytes → Type 0
ReadsInput each input bytes =
    CanRead each input
    × ((file : List ℕ) × (slice_get each input ≡ Some (Ok file)) × (bytes ≡ stable file))

-- the input at this position was not read, because of this fault; or it was read
abbrev pub ReadsTo : {A : Type 0} → List (Result (List ℕ) InputFault) → ℕ → OwnFault A → Type 0
ReadsTo each input (Unread fault) =
    (slice_get each input ≡ Some (Err fault)) ⊎ (fault ≡ inputs.Read reads.Memory)
ReadsTo each input (Of fault) = CanRead each (input + 1)

-- this is why stream 2 of a file that can be read was not read, or is not that of types: the file
-- has this fault, or memory ran out
abbrev pub IsOwnReadFault : {A : Type 0} → List ℕ → OwnFault A → Type 0
IsOwnReadFault file (Unread fault) = fault ≡ inputs.Read reads.Memory
IsOwnReadFault file (Of (add.Refused fault)) = HasPdbFault file fault
IsOwnReadFault file (Of (add.TooLarge bytes)) = ⊥
IsOwnReadFault file (Of add.Memory) = Unit {0}

-- this is why a file that can be read is not added to the types of `before`: its own fault, or more
-- bytes together than the limit, or memory ran out
abbrev pub IsOwnFault : {A : Type 0} → List (List ℕ) → ℕ → List ℕ → OwnFault A → Type 0
IsOwnFault before limit file (Unread fault) = fault ≡ inputs.Read reads.Memory
IsOwnFault before limit file (Of fault) = IsAddFault before limit file fault
