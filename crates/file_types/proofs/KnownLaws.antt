-- What reads gave of a file that is known is what the file has: its records, its types and its first fault.
use Rattle.std.proofs.Common.{◌≡◌, ◌⊎◌, ℕ, List, Some, refl, arith, inl, inr}
use Rattle.std.proofs.lemmas.Option.{slice_get_cases}
use Rattle.byte_fields.specs.Bytes.{AreBytes}
use Rattle.byte_io.specs.At.{Bytes, IfKnown, stable}
use Rattle.msf_blocks.specs.Directory.{bytes_of}
use Rattle.msf_blocks.specs.Layout.{LayoutView, HasLayout, HasTexts}
use Rattle.msf_blocks.proofs.KnownLayoutLaws.{fault_known, layout_given, layout_known}
use Rattle.msf_streams.specs.Streams.{listed_contents}
use Rattle.msf_streams.proofs.AtLaws.{stream_given, stream_known}
use Rattle.file_types.specs.Read.{HasFaultOfTexts, HasFaultOfTypes, HasInfoFault, HasInfoFaultRead, HasLongInfo, HasPdbFault, HasPdbFaultRead, HasRecordsFault, HasStreamFault, HasStreamFaultRead, HasTypes, IsAccepted, IsLayoutFault, IsLayoutFaultRead, ListsLongInfo, ListsRecords, ListsStream, RecordsWereRead, StreamWasRead, TypesWereRead}
use Rattle.file_types.specs.declared.fault.PdbFault.{PdbFault}
use Rattle.file_types.specs.declared.fault.PdbFault.TheVariants as fault
use Rattle.file_types.proofs.ReadLaws.{info_refused}
use Rattle.file_types.proofs.RefusedLaws.{types_fault_read}
use Rattle.file_types.proofs.StreamLaws.{length-text, long_info, short_info}

-- ---- records and types

-- records that reads gave are those of the file
pub records_known : (file : List ℕ) (layout : LayoutView) (records : List (List ℕ)) → HasLayout file layout → RecordsWereRead (stable file) layout records → ListsRecords file layout records
records_known file layout records has (stream, read, lists) = record { stream = stream; is_stream = stream_known file layout 2 stream has read; has_records = lists }

-- a stream 1 that is listed with enough bytes has them
pub info_known : (file : List ℕ) (layout : LayoutView) → ListsLongInfo layout → HasLongInfo file layout
info_known file layout (info, listed, long) = long_info file layout (bytes_of info.size) (rw listed refl) long

-- the stream 2 of a layout that is listed with a long enough stream 1 is listed by the file
pub lists_known : (file : List ℕ) (layout : LayoutView) (stream : List ℕ) → AreBytes file → HasLayout file layout → StreamWasRead (stable file) layout stream → ListsStream file stream
lists_known file layout stream bytes has (read, info) = record {
  bytes = bytes;
  layout = layout;
  has_layout = has;
  is_stream = stream_known file layout 2 stream has read;
  info = info_known file layout info;
}

-- types that reads gave are those of the file, which is accepted
pub types_known : (file : List ℕ) (layout : LayoutView) (records : List (List ℕ)) → AreBytes file → HasLayout file layout → TypesWereRead (stable file) layout records → IsAccepted file records
types_known file layout records bytes has (read, info, types) = record {
  bytes = bytes;
  has = record { layout = layout; has_layout = has; lists = records_known file layout records has read };
  info = info_known file layout info;
  types = types;
}

-- so what reads gave of a layout that they gave
pub accepted_known : (file : List ℕ) (types : List (List ℕ)) → AreBytes file → (layout : LayoutView) × HasTexts (stable file) layout × TypesWereRead (stable file) layout types → IsAccepted file types
accepted_known file types bytes (layout, has, read) = types_known file layout types bytes (layout_known file layout has) read

-- ---- the way back

-- a stream 1 of enough bytes is listed with them
info_listed : (file : List ℕ) (layout : LayoutView) → HasLongInfo file layout → ListsLongInfo layout
info_listed file layout (text, is, long) = elim (slice_get_cases layout.streams 1).1 [
  | inl (stream, lt, there, at) ↦
      let both : Some (listed_contents file layout.superblock.block_size stream) ≡ Some text = rw there at is in
      let same : listed_contents file layout.superblock.block_size stream ≡ text = cc in
      (stream, there, omega (arith, length-text file layout.superblock.block_size stream, rw (← same) at long))
  | inr (le, none) ↦ let bad = rw none at is in absurd cc
]

-- reads of a file give the stream that it lists
pub lists_read : (file stream : List ℕ) → ListsStream file stream → (layout : LayoutView) × HasTexts (stable file) layout × StreamWasRead (stable file) layout stream
lists_read file stream lists = (
  lists.layout,
  layout_given file lists.layout lists.has_layout,
  (stream_given file lists.layout 2 stream lists.has_layout lists.is_stream, info_listed file lists.layout lists.info),
)

-- and the types with which it is accepted
pub accepted_read : (file : List ℕ) (types : List (List ℕ)) → IsAccepted file types → (layout : LayoutView) × HasTexts (stable file) layout × TypesWereRead (stable file) layout types
accepted_read file types is =
    let its = is.has.lists in
    let there = lists_read file its.stream (record { bytes = is.bytes; layout = is.has.layout; has_layout = is.has.has_layout; is_stream = its.is_stream; info = is.info }) in
    (there.0, there.1, ((its.stream, there.2.0, its.has_records), there.2.1, is.types))

-- ---- faults

-- a fault of stream 1 that the layout shows is that of the file
info_fault_known : {A : Type 0} (file : List ℕ) (layout : LayoutView) (inner : PdbFault A) → HasInfoFaultRead layout inner → HasInfoFault file layout inner
info_fault_known file layout (fault.Stream inner) refused = refused
info_fault_known file layout (fault.Info inner) (info, listed, short, is) = (short_info file layout (bytes_of info.size) (rw listed refl) short, is)
info_fault_known file layout inner refused = absurd refused

-- a fault that reads gave of stream 2 is that of the file's
pub stream_fault_known : {A : Type 0} (file : List ℕ) (layout : LayoutView) (inner : PdbFault A) → HasLayout file layout → HasStreamFaultRead (stable file) layout inner → HasStreamFault file layout inner
stream_fault_known file layout (fault.Stream inner) has refused = refused
stream_fault_known file layout (fault.Tpi inner) has (stream, read, first) = (stream, stream_known file layout 2 stream has read, first)
stream_fault_known file layout inner has refused = absurd refused

-- it is the first fault on the way to the records
pub records_fault_known : {A : Type 0} (file : List ℕ) (layout : LayoutView) (inner : PdbFault A) → HasLayout file layout → HasStreamFaultRead (stable file) layout inner → HasRecordsFault file inner
records_fault_known file layout (fault.Stream inner) has refused = (layout, has, refused)
records_fault_known {A = A} file layout (fault.Tpi inner) has refused = (layout, has, stream_fault_known {A = A} file layout (fault.Tpi inner) has refused)
records_fault_known file layout inner has refused = absurd refused

-- a fault that reads gave on the way to the types of a layout is that of the file
pub pdb_fault_known : {A : Type 0} (file : List ℕ) (layout : LayoutView) (inner : PdbFault A) → HasLayout file layout → HasPdbFaultRead (stable file) layout inner → HasPdbFault file inner
pdb_fault_known file layout inner has (inl refused) = info_refused file layout inner has (info_fault_known file layout inner refused)
pdb_fault_known file layout (fault.Stream inner) has (inr (info, inl refused)) = (layout, has, inr (info_known file layout info, refused))
pdb_fault_known {A = A} file layout (fault.Tpi inner) has (inr (info, inl refused)) = (layout, has, inr (info_known file layout info, stream_fault_known {A = A} file layout (fault.Tpi inner) has refused))
pdb_fault_known file layout (fault.Type inner) has (inr (info, inr (records, read, refused))) =
    (records, record { layout = layout; has_layout = has; lists = records_known file layout records has read }, info_known file layout info, refused)
pdb_fault_known file layout inner has (inr (info, inl refused)) = absurd refused
pdb_fault_known file layout inner has (inr (info, inr refused)) = absurd refused

-- a fault that reads gave of the layout is that of the file's
pub layout_fault_known : {A : Type 0} (file : List ℕ) (inner : PdbFault A) → IsLayoutFaultRead (stable file) inner → IsLayoutFault file inner
layout_fault_known file (fault.Msf inner) (refused, named) = elim (fault_known file inner refused) [
  | inl first ↦ first
  | inr want ↦ absurd (named want.0)
]
layout_fault_known file inner refused = absurd refused

-- a fault that reads gave of the file is its own
pub texts_fault_known : {A : Type 0} (file : List ℕ) (inner : PdbFault A) → HasFaultOfTexts (HasPdbFaultRead {A = A}) (stable file) inner → HasPdbFault file inner
texts_fault_known {A = A} file (fault.Msf inner) (inl refused) = layout_fault_known {A = A} file (fault.Msf inner) refused
texts_fault_known file inner (inl refused) = absurd refused
texts_fault_known file inner (inr (layout, has, refused)) = pdb_fault_known file layout inner (layout_known file layout has) refused

-- so where a fault may also be out of memory
pub records_refused_known : {A : Type 0} (bytes : Bytes) (layout : LayoutView) (inner : PdbFault A) → IfKnown bytes (λ file. HasLayout file layout) → HasStreamFaultRead bytes layout inner ⊎ (inner ≡ fault.Memory)
    → IfKnown bytes (λ file. HasRecordsFault file inner ⊎ (inner ≡ fault.Memory))
records_refused_known bytes layout inner has (inl refused) file known = inl (records_fault_known file layout inner (has file known) (rw known at refused))
records_refused_known bytes layout inner has (inr want) file known = inr want

pub types_refused_known : {A : Type 0} (bytes : Bytes) (layout : LayoutView) (inner : PdbFault A) → IfKnown bytes (λ file. HasLayout file layout) → HasPdbFaultRead bytes layout inner ⊎ (inner ≡ fault.Memory)
    → IfKnown bytes (λ file. HasPdbFault file inner ⊎ (inner ≡ fault.Memory))
types_refused_known bytes layout inner has (inl refused) file known = inl (pdb_fault_known file layout inner (has file known) (rw known at refused))
types_refused_known bytes layout inner has (inr want) file known = inr want

pub refused_known : {A : Type 0} (bytes : Bytes) (inner : PdbFault A) → HasFaultOfTexts (HasPdbFaultRead {A = A}) bytes inner ⊎ (inner ≡ fault.Memory) → IfKnown bytes (λ file. HasPdbFault file inner ⊎ (inner ≡ fault.Memory))
refused_known bytes inner (inl refused) file known = inl (texts_fault_known file inner (rw known at refused))
refused_known bytes inner (inr want) file known = inr want

-- ---- the stream that a file lists

-- types that it has are those with which the file is accepted
pub types_lists : (file stream : List ℕ) (types : List (List ℕ)) → ListsStream file stream → HasTypes stream types → IsAccepted file types
types_lists file stream types lists (has, are) = record {
  bytes = lists.bytes;
  has = record { layout = lists.layout; has_layout = lists.has_layout; lists = record { stream = stream; is_stream = lists.is_stream; has_records = has } };
  info = lists.info;
  types = are;
}

-- the fault that it has is the first one of the file
pub fault_lists : {A : Type 0} (file stream : List ℕ) (inner : PdbFault A) → ListsStream file stream → HasFaultOfTypes stream inner → HasPdbFault file inner
fault_lists file stream inner lists first =
    let read = lists_read file stream lists in
    pdb_fault_known file read.0 inner (layout_known file read.0 read.1) (types_fault_read (stable file) read.0 stream inner read.2 first)

-- so where memory may have run out
pub refused_lists : {A : Type 0} (file stream : List ℕ) (inner : PdbFault A) → ListsStream file stream → HasFaultOfTypes stream inner ⊎ (inner ≡ fault.Memory) → HasPdbFault file inner ⊎ (inner ≡ fault.Memory)
refused_lists file stream inner lists (inl first) = inl (fault_lists file stream inner lists first)
refused_lists file stream inner lists (inr want) = inr want
