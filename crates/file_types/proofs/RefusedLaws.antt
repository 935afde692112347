-- The first fault of texts, where the bytes of a file need not be known.
use Rattle.std.proofs.Common.{◌≡◌, ◌⊎◌, ℕ, List, ◌∙◌, ap, inl, inr}
use Rattle.msf_superblock.specs.declared.fault.MsfFault.{MsfFault}
use Rattle.msf_superblock.specs.declared.fault.MsfFault.TheVariants as msf
use Rattle.byte_io.specs.At.{Bytes}
use Rattle.msf_blocks.specs.Layout.{LayoutView, TextsRefuse}
use Rattle.msf_streams.specs.Streams.{WasRead}
use Rattle.tpi_records.specs.Records.{HasRecords, IsFirstFault}
use Rattle.tpi_records.specs.declared.fault.TpiFault.{TpiFault}
use Rattle.tpi_records.specs.declared.fault.TpiFault.TheVariants as tpi
use Rattle.file_types.specs.Read.{HasFaultOfTypes, HasStreamFaultRead, HasPdbFaultRead, HasTypes, IsLayoutFaultRead, StreamWasRead, TypesWereRead}
use Rattle.file_types.specs.Fault.{pdb_from_msf, pdb_from_tpi}
use Rattle.file_types.specs.declared.fault.PdbFault.{PdbFault}
use Rattle.file_types.specs.declared.fault.PdbFault.TheVariants as fault

-- texts of a container that are refused
pub texts_refused : {A : Type 0} (bytes : Bytes) (inner : MsfFault) (outer : PdbFault A) → outer ≡ pdb_from_msf inner → TextsRefuse bytes inner → IsLayoutFaultRead bytes outer ⊎ (outer ≡ fault.Memory)
texts_refused bytes msf.Memory outer made refused = inr made
texts_refused bytes inner outer made refused = inl (rw made (refused, λ is. cc))

-- bytes of stream 2 that are refused
pub bytes_refused : {A : Type 0} (bytes : Bytes) (layout : LayoutView) (stream : List ℕ) (inner : TpiFault) (outer : PdbFault A) → WasRead bytes layout 2 stream → outer ≡ pdb_from_tpi inner
    → IsFirstFault stream inner ⊎ ((inner ≡ tpi.Memory) × ((records : List (List ℕ)) × HasRecords stream records)) → HasStreamFaultRead bytes layout outer ⊎ (outer ≡ fault.Memory)
bytes_refused bytes layout stream tpi.Memory outer read made refused = inr made
bytes_refused bytes layout stream inner outer read made (inl first) = inl (rw made (stream, read, first))
bytes_refused bytes layout stream inner outer read made (inr want) = inr (made ∙ ap pdb_from_tpi want.0)

-- a stream 2 that has no types
pub types_fault_read : {A : Type 0} (bytes : Bytes) (layout : LayoutView) (stream : List ℕ) (inner : PdbFault A) → StreamWasRead bytes layout stream → HasFaultOfTypes stream inner → HasPdbFaultRead bytes layout inner
types_fault_read bytes layout stream (fault.Tpi inner) (read, info) first = inr (info, inl (stream, read, first))
types_fault_read bytes layout stream (fault.Type inner) (read, info) (records, has, first) = inr (info, inr (records, (stream, read, has), first))
types_fault_read bytes layout stream inner read first = absurd first

-- so where memory may have run out
pub types_refused : {A : Type 0} (bytes : Bytes) (layout : LayoutView) (stream : List ℕ) (inner : PdbFault A) → StreamWasRead bytes layout stream → HasFaultOfTypes stream inner ⊎ (inner ≡ fault.Memory)
    → HasPdbFaultRead bytes layout inner ⊎ (inner ≡ fault.Memory)
types_refused bytes layout stream inner read (inl first) = inl (types_fault_read bytes layout stream inner read first)
types_refused bytes layout stream inner read (inr want) = inr want

-- the fault of the records of a stream 2 is its own
pub records_refused : {A : Type 0} (stream : List ℕ) (inner : TpiFault) (outer : PdbFault A) → outer ≡ pdb_from_tpi inner
    → IsFirstFault stream inner ⊎ ((inner ≡ tpi.Memory) × ((records : List (List ℕ)) × HasRecords stream records)) → HasFaultOfTypes stream outer ⊎ (outer ≡ fault.Memory)
records_refused stream tpi.Memory outer made refused = inr made
records_refused stream inner outer made (inl first) = inl (rw made first)
records_refused stream inner outer made (inr want) = inr (made ∙ ap pdb_from_tpi want.0)

-- a stream 2 that has types gives those types
pub types_read : (bytes : Bytes) (layout : LayoutView) (stream : List ℕ) (types : List (List ℕ)) → StreamWasRead bytes layout stream → HasTypes stream types → TypesWereRead bytes layout types
types_read bytes layout stream types (read, info) (has, are) = ((stream, read, has), info, are)
