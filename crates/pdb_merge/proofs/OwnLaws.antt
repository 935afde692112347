-- The fault of one input, as far as this input goes.
use Rattle.std.proofs.Common.{◌≡◌, ◌⊎◌, ◌+◌, ℕ, List, [], Option, Some, None, get_or, refl, inl, inr}
use Rattle.std.specs.Prelude.{Result, Ok, Err, IfSome, slice_get}
use Rattle.byte_io.specs.At.{Bytes, stable}
use Rattle.byte_io.specs.Inputs.{CanRead, Give, HasBytes, opened_bytes}
use Rattle.byte_io.specs.declared.inputs.Opened.{Opened}
use Rattle.byte_io.specs.declared.input.ReadFault.TheVariants as reads
use Rattle.byte_io.specs.declared.inputs.InputFault.{InputFault}
use Rattle.byte_io.specs.declared.inputs.InputFault.TheVariants as inputs
use Rattle.file_types.specs.Read.{HasPdbFault}
use Rattle.file_types.specs.declared.fault.PdbFault.{PdbFault}
use Rattle.file_types.specs.declared.fault.PdbFault.TheVariants as pdb
use Rattle.pdb_merge.specs.Fault.{add_from_pdb}
use Rattle.pdb_merge.proofs.InputLaws.{IsUnread, file_read, more_read}
use Rattle.pdb_merge.specs.Own.{IsOwnReadFault, ReadsInput, merge_from_own}
use Rattle.pdb_merge.specs.Union.{IsReadingFaultAt}
use Rattle.pdb_merge.specs.declared.fault.AddFault.TheVariants as add
use Rattle.pdb_merge.specs.declared.fault.MergeFault.{MergeFault}
use Rattle.pdb_merge.specs.declared.fault.MergeFault.TheVariants as merge
use Rattle.pdb_merge.specs.declared.input.OwnFault.{OwnFault}
use Rattle.pdb_merge.specs.declared.input.OwnFault.TheVariants as own

-- an input that gives its file is not read only when out of memory
pub given_memory : (known : Option (List (Result (List ℕ) InputFault))) (files : List (List ℕ)) (i : ℕ) (inner : InputFault) → Give known files → IsUnread known i inner → inner ≡ inputs.Read reads.Memory
given_memory known files i inner given is = elim (rw given at is) [
  | inl there ↦ let bad = (file_read files i (Err inner) there).1 in absurd cc
  | inr memory ↦ memory
]

-- an input that is opened is read, and those before it were
pub opened_reads : {F : Type 0} (known : Option (List (Result (List ℕ) InputFault))) (i : ℕ) (bytes : F → Bytes) (opened : Opened F) → IfSome known (λ each. CanRead each i)
    → IfSome known (λ each. (file : List ℕ) × (slice_get each i ≡ Some (Ok file)) × HasBytes bytes opened file) → IfSome known (λ each. ReadsInput each i (opened_bytes bytes opened))
opened_reads None i bytes opened before is = tt
opened_reads (Some each) i bytes opened before is = (before, is)

pub whole_reads : (known : Option (List (Result (List ℕ) InputFault))) (i : ℕ) (file : List ℕ) → IfSome known (λ each. CanRead each i) → IfSome known (λ each. slice_get each i ≡ Some (Ok file))
    → IfSome known (λ each. ReadsInput each i (stable file))
whole_reads None i file before is = tt
whole_reads (Some each) i file before is = (before, (file, is, refl))

-- and then so many inputs can be read
pub reads_more : (known : Option (List (Result (List ℕ) InputFault))) (i : ℕ) (bytes : Bytes) → IfSome known (λ each. ReadsInput each i bytes) → IfSome known (λ each. CanRead each (i + 1))
reads_more None i bytes reads = tt
reads_more (Some each) i bytes (before, (file, there, is)) = more_read (Some each) i before (file, there)

-- a fault of the bytes of a file
pub pdb_own : {A : Type 0} (file : List ℕ) (inner : PdbFault A) → HasPdbFault file inner ⊎ (inner ≡ pdb.Memory) → IsOwnReadFault file (own.Of (add_from_pdb inner))
pdb_own file pdb.Memory is = tt
pdb_own file (pdb.Msf f) (inl refused) = refused
pdb_own file (pdb.Stream f) (inl refused) = refused
pdb_own file (pdb.Info f) (inl refused) = refused
pdb_own file (pdb.Tpi f) (inl refused) = refused
pdb_own file (pdb.Type f) (inl refused) = refused
pdb_own file inner (inr memory) = absurd cc

-- it is why the types of the file at this position are not read
pub own_stops_at : {A : Type 0} (files : List (List ℕ)) (i : ℕ) (fault : OwnFault A) (outer : MergeFault A) → IsOwnReadFault (get_or files i []) fault
    → (outer ≡ merge_from_own i fault) ⊎ (outer ≡ merge.Memory) → IsReadingFaultAt files i outer
own_stops_at files i fault outer is (inr memory) = rw memory tt
own_stops_at files i (own.Unread inner) outer is (inl made) = rw (made, is) tt
own_stops_at files i (own.Of (add.Refused inner)) outer is (inl made) = rw made (refl, is)
own_stops_at files i (own.Of (add.TooLarge bytes)) outer is (inl made) = absurd is
own_stops_at files i (own.Of add.Memory) outer is (inl made) = rw made tt
