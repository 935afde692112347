-- Merges that leave out the files that are refused.
use Rattle.std.specs.Prelude.{ℕ, ◌≡◌, ◌≢◌, ◌<◌, ◌⊎◌, ◌+◌, List, [], Option, Result, length, take, get_or, IfSome}
use Rattle.std.specs.List.{All, AllPairs, Contains}
use Rattle.byte_io.specs.Inputs.{CanRead, Give}
use Rattle.byte_io.specs.declared.inputs.InputFault.{InputFault}
use Rattle.type_trees.specs.Tree.{IsType}
use Rattle.file_types.specs.Read.{IsAccepted, HasPdbFault}
use Rattle.file_types.specs.declared.fault.PdbFault.TheVariants as fault
use Rattle.pdb_merge.specs.Fault.{NamesFault}
use Rattle.pdb_merge.specs.Merged.{WroteAs}
use Rattle.pdb_merge.specs.Merging.{MergeView, IsMapOf}
use Rattle.pdb_merge.specs.Union.{HasTypeBelow, Unites, Weighs, Within, ReadsFirst}
use Rattle.run_options.specs.declared.on_refused.OnRefused.{OnRefused}
use Rattle.run_options.specs.declared.on_refused.OnRefused.TheVariants.{Stop, Skip}
use Rattle.pdb_merge.specs.declared.fault.MergeFault.{MergeFault}
use Rattle.pdb_merge.specs.declared.fault.MergeFault.TheVariants as merge
use Rattle.pdb_merge.specs.declared.sift.LeftOut.{LeftOut}
use Rattle.pdb_merge.specs.declared.summary.Summary.{Summary}

-- ---- the files that are left out

-- the file at this position is left out
abbrev pub IsLeftOut : {A : Type 0} → List (LeftOut A) → ℕ → Type 0
IsLeftOut {A = A} left position =
    (one : LeftOut A) × Contains left one × (one.file ≡ position)

-- the file at this position is accepted
abbrev pub IsAcceptedAt : List (List ℕ) → ℕ → Type 0
IsAcceptedAt files position =
    (records : List (List ℕ)) × IsAccepted (get_or files position []) records

-- this names one of the files, and its first fault
pub record IsRefused {A : Type 0} (files : List (List ℕ)) (one : LeftOut A) : Type 0 where
  pub inside : one.file < length files
  pub refused : HasPdbFault (get_or files one.file []) one.fault

-- these are some of the first `end` files, in their order, each for a fault that is not out of
-- memory
pub record AreListed {A : Type 0} (end : ℕ) (left : List (LeftOut A)) : Type 0 where
  pub in_order : AllPairs (λ one other. one.file < other.file) left
  pub below : All (λ one. one.file < end) left
  pub named : All (λ one. one.fault ≢ fault.Memory) left

-- these are left out, each once, in their order and for its first fault, and all others are
-- accepted
pub record LeavesOut {A : Type 0} (files : List (List ℕ)) (left : List (LeftOut A)) : Type 0 where
  pub listed : AreListed (length files) left
  pub refused : All (IsRefused files) left
  pub others : (i : ℕ) → i < length files → IsLeftOut left i ⊎ IsAcceptedAt files i

-- ---- what is merged

-- these are the maps of the files into the list; that of a file that is left out has no records
pub record AreMapsBut {A : Type 0} (files : List (List ℕ)) (left : List (LeftOut A))
    (list maps : List (List ℕ)) : Type 0 where
  pub many : length maps ≡ length files
  pub each : (i : ℕ) → i < length files →
      IsMapOf (get_or files i []) list (get_or maps i [])
      ⊎ (IsLeftOut left i × (get_or maps i [] ≡ []))

-- the merge has the types of those of these files that are accepted, and these were left out
pub record HasSifted {A : Type 0} (merge : MergeView) (files : List (List ℕ))
    (left : List (LeftOut A)) : Type 0 where
  pub leaves : LeavesOut files left
  pub unites : Unites merge.types files (length files)
  pub within : Within (IsType merge.types) merge.limit
  pub maps : IfSome merge.maps (AreMapsBut files left merge.types)

-- a file that must not be left out: each of them, or one that is needed
abbrev pub MustStay : OnRefused → (ℕ → Type 0) → ℕ → Type 0
MustStay Stop needs file = Unit {0}
MustStay Skip needs file = needs file

-- no file that must stay is left out
abbrev pub AreSpared : {A : Type 0} → (ℕ → Type 0) → List (LeftOut A) → Type 0
AreSpared must left = All (λ one. must one.file → ⊥) left

-- the first `end` files were read, each of which was added to the merge or is left out
pub record SiftsUpTo {A : Type 0} (known : Option (List (Result (List ℕ) InputFault)))
    (must : ℕ → Type 0) (end : ℕ) (merge : MergeView) (left : List (LeftOut A)) : Type 0 where
  pub sifted : (files : List (List ℕ)) → Give known files → HasSifted merge (take end files) left
  pub listed : AreListed end left
  pub spared : AreSpared must left
  pub read : IfSome known (λ each. CanRead each end)
  pub within : Within (IsType merge.types) merge.limit

-- ---- which files are merged, and why they are not

-- each of the first `end` files that must stay is accepted
abbrev pub AcceptsNeeded : (ℕ → Type 0) → List (List ℕ) → ℕ → Type 0
AcceptsNeeded must files end = (i : ℕ) → i < end → must i → IsAcceptedAt files i

-- the first `end` files can be merged, but for those that are left out
pub record CanSift (must : ℕ → Type 0) (files : List (List ℕ)) (end limit : ℕ) : Type 0 where
  pub accepted : AcceptsNeeded must files end
  pub within : Within (HasTypeBelow files end) limit

-- the files of the inputs were merged, but for those that are left out
pub record AcceptsSift (known : Option (List (Result (List ℕ) InputFault)))
    (must : ℕ → Type 0) (limit : ℕ) : Type 0 where
  -- every file was read
  pub read : IfSome known (λ each. CanRead each (length each))
  pub can : (given : List (List ℕ)) → Give known given → CanSift must given (length given) limit

-- this is why the files are not merged: those before one of them can be, and this one must stay and
-- has this fault; or it is accepted, and with it the types have `bytes` bytes, more than the limit;
-- or memory ran out
abbrev pub IsSiftFault : {A : Type 0} → (ℕ → Type 0) → List (List ℕ) → ℕ → MergeFault A → Type 0
IsSiftFault must files limit (merge.Refused file inner) =
    (file < length files) × must file × CanSift must files file limit
    × HasPdbFault (get_or files file []) inner
IsSiftFault must files limit (merge.TooLarge file bytes) =
    (file < length files) × CanSift must files file limit × IsAcceptedAt files file
    × Weighs (HasTypeBelow files (file + 1)) bytes × (limit < bytes)
IsSiftFault must files limit merge.Memory = Unit {0}
IsSiftFault must files limit (merge.Input file inner) = ⊥

-- no file is refused for a fault of its own but one that must stay, and out of memory is never
-- inside another fault
abbrev pub IsOfSift : {A : Type 0} → (ℕ → Type 0) → MergeFault A → Type 0
IsOfSift must (merge.Refused file inner) = must file × NamesFault (merge.Refused file inner)
IsOfSift must fault = NamesFault fault

-- the files are not merged, for this reason
pub record RefusesSift {A : Type 0} (known : Option (List (Result (List ℕ) InputFault)))
    (must : ℕ → Type 0) (limit : ℕ) (fault : MergeFault A) : Type 0 where
  pub first : (given : List (List ℕ)) → Give known given → IsSiftFault must given limit fault
  -- reading comes first: every file was read, or the fault is that of the first unread file
  pub reads : IfSome known (λ each. ReadsFirst each fault)
  pub own : IsOfSift must fault
  -- files that can be merged are refused only when out of memory
  pub found : (given : List (List ℕ)) → Give known given
      → CanSift must given (length given) limit → fault ≡ merge.Memory

-- ---- what was written

-- a sink took the file of the types of those files that are accepted, of which `IsFile` holds;
-- these were left out, and the maps, if they are kept, are those into the records of the file
pub record WroteSifted {A : Type 0} (IsFile : List ℕ → List (List ℕ) → Type 0)
    (files : List (List ℕ)) (old new : Option (List ℕ)) (summary : Summary)
    (left : List (LeftOut A)) (kept : Option (List (List ℕ))) : Type 0 where
  pub wrote : WroteAs IsFile files old new summary
  pub leaves : LeavesOut files left
  pub maps : IfSome kept (AreMapsBut files left wrote.records)
