-- The types of a list of files, and when they can be merged.
use Rattle.std.specs.Prelude.{ℕ, ◌≡◌, ◌≢◌, ◌+◌, ◌<◌, ◌≤◌, ◌⊎◌, ◌↔◌, List, [], Result, length, get_or}
use Rattle.std.specs.List.{AllPairs, Contains}
use Rattle.byte_io.specs.Inputs.{CanRead, IsFirstUnread}
use Rattle.byte_io.specs.declared.inputs.InputFault.{InputFault}
use Rattle.type_trees.specs.Tree.{Tree, IsType}
use Rattle.type_trees.specs.Canon.{weight}
use Rattle.file_types.specs.Read.{IsAccepted, HasTypes, HasFaultOfTypes, HasPdbFault}
use Rattle.pdb_merge.specs.declared.fault.AddFault.{AddFault}
use Rattle.pdb_merge.specs.declared.fault.AddFault.TheVariants as add
use Rattle.pdb_merge.specs.declared.fault.MergeFault.{MergeFault}
use Rattle.pdb_merge.specs.declared.fault.MergeFault.TheVariants as merge

-- ---- the types of files

-- the file is accepted, and this is a type of its records
abbrev pub FileHas : List ℕ → Tree → Type 0
FileHas file t = (records : List (List ℕ)) × IsAccepted file records × IsType records t

-- this is a type of one of the first `end` files
abbrev pub HasTypeBelow : List (List ℕ) → ℕ → Tree → Type 0
HasTypeBelow files end t = (i : ℕ) × (i < end) × FileHas (get_or files i []) t

-- this is a type of one of the files
abbrev pub HasType : List (List ℕ) → Tree → Type 0
HasType files = HasTypeBelow files (length files)

-- two lists have the same files, in any order and each any number of times
abbrev pub SameFiles : List (List ℕ) → List (List ℕ) → Type 0
SameFiles files others = (x : List ℕ) → Contains files x ↔ Contains others x

-- two lists of files have the same types
abbrev pub SameTypes : List (List ℕ) → List (List ℕ) → Type 0
SameTypes files others = (t : Tree) → HasType files t ↔ HasType others t

-- the first `end` files are accepted
abbrev pub AcceptedBelow : List (List ℕ) → ℕ → Type 0
AcceptedBelow files end =
    (i : ℕ) → i < end → (records : List (List ℕ)) × IsAccepted (get_or files i []) records

-- ---- how many bytes types have

-- l lists the trees that have P, each once
pub record Lists (l : List Tree) (P : Tree → Type 0) : Type 0 where
  pub distinct : AllPairs (λ t u. t ≢ u) l
  pub members : (t : Tree) → Contains l t ↔ P t

-- the trees that have P have `bytes` bytes together
abbrev pub Weighs : (Tree → Type 0) → ℕ → Type 0
Weighs P bytes = (l : List Tree) × Lists l P × (weight l ≡ bytes)

-- the trees that have P have at most `limit` bytes together
abbrev pub Within : (Tree → Type 0) → ℕ → Type 0
Within P limit = (bytes : ℕ) × Weighs P bytes × (bytes ≤ limit)

-- ---- why a file is not added

-- this is why the file is not added to the types of `before`: it is not accepted, or the union has
-- `bytes` bytes, more than the limit, or memory ran out
abbrev pub IsAddFault : {A : Type 0} → List (List ℕ) → ℕ → List ℕ → AddFault A → Type 0
IsAddFault before limit file (add.Refused fault) = HasPdbFault file fault
IsAddFault before limit file (add.TooLarge bytes) =
    (records : List (List ℕ)) × IsAccepted file records
    × Weighs (λ t. IsType before t ⊎ IsType records t) bytes × (limit < bytes)
IsAddFault before limit file add.Memory = Unit {0}

-- this is why the stream is not added to the types of `before`: it has this fault, or the union has
-- `bytes` bytes, more than the limit, or memory ran out
abbrev pub IsAddFaultOfStream : {A : Type 0} → List (List ℕ) → ℕ → List ℕ → AddFault A → Type 0
IsAddFaultOfStream before limit stream (add.Refused fault) = HasFaultOfTypes stream fault
IsAddFaultOfStream before limit stream (add.TooLarge bytes) =
    (records : List (List ℕ)) × HasTypes stream records
    × Weighs (λ t. IsType before t ⊎ IsType records t) bytes × (limit < bytes)
IsAddFaultOfStream before limit stream add.Memory = Unit {0}

-- ---- a list of files

-- the files are accepted, and their types have at most `limit` bytes together
pub record CanMerge (files : List (List ℕ)) (limit : ℕ) : Type 0 where
  pub accepted : AcceptedBelow files (length files)
  pub within : Within (HasType files) limit

-- the first `end` files can be merged
pub record CanMergeBelow (files : List (List ℕ)) (end limit : ℕ) : Type 0 where
  pub accepted : AcceptedBelow files end
  pub within : Within (HasTypeBelow files end) limit

-- this is why the files are not merged: the files before one of them can be merged, and this one
-- has this fault, or the union with it has `bytes` bytes, more than the limit; or memory ran out
abbrev pub IsMergeFault : {A : Type 0} → List (List ℕ) → ℕ → MergeFault A → Type 0
IsMergeFault files limit (merge.Refused file fault) =
    (file < length files) × CanMergeBelow files file limit
    × HasPdbFault (get_or files file []) fault
IsMergeFault files limit (merge.TooLarge file bytes) =
    (file < length files) × CanMergeBelow files file limit × AcceptedBelow files (file + 1)
    × Weighs (HasTypeBelow files (file + 1)) bytes × (limit < bytes)
IsMergeFault files limit merge.Memory = Unit {0}
IsMergeFault files limit (merge.Input file fault) = ⊥

-- this is why the types of the files are not read: the files before one of them are accepted, and
-- this one has this fault; or memory ran out
abbrev pub IsReadingFault : {A : Type 0} → List (List ℕ) → MergeFault A → Type 0
IsReadingFault files (merge.Refused file fault) =
    (file < length files) × AcceptedBelow files file × HasPdbFault (get_or files file []) fault
IsReadingFault files merge.Memory = Unit {0}
IsReadingFault files _ = ⊥

-- this is why the types of the file at this position are not read: it has this fault, or memory ran
-- out
abbrev pub IsReadingFaultAt : {A : Type 0} → List (List ℕ) → ℕ → MergeFault A → Type 0
IsReadingFaultAt files position (merge.Refused file fault) =
    (file ≡ position) × HasPdbFault (get_or files position []) fault
IsReadingFaultAt files position merge.Memory = Unit {0}
IsReadingFaultAt files position _ = ⊥

-- reading comes first: this fault is that of the first input that cannot be read, or every input
-- can be read, or memory ran out
abbrev pub ReadsFirst : {A : Type 0} → List (Result (List ℕ) InputFault) → MergeFault A → Type 0
ReadsFirst each (merge.Input file fault) = IsFirstUnread each file fault
ReadsFirst each merge.Memory = Unit {0}
ReadsFirst each fault = CanRead each (length each)

-- the records have the types of the first `end` files
abbrev pub Unites : List (List ℕ) → List (List ℕ) → ℕ → Type 0
Unites records files end = (t : Tree) → IsType records t ↔ HasTypeBelow files end t
