-- Which files are accepted, and with which types.
use Rattle.std.specs.Prelude.{ℕ, ◌≡◌, ◌≢◌, ◌<◌, ◌≤◌, ◌⊎◌, List, Some, length, slice_get}
use Rattle.msf_streams.specs.declared.fault.StreamFault.TheVariants.{NoStream}
use Rattle.byte_fields.specs.Bytes.{AreBytes}
use Rattle.byte_fields.specs.Check.{first_failing}
use Rattle.byte_io.specs.At.{Bytes}
use Rattle.msf_blocks.specs.Directory.{Listed, bytes_of}
use Rattle.msf_blocks.specs.Layout.{LayoutView, HasLayout, HasTexts, TextsRefuse, layout_checks}
use Rattle.msf_superblock.specs.declared.fault.MsfFault.TheVariants as msf
use Rattle.msf_streams.specs.Streams.{WasRead, stream_contents}
use Rattle.pdb_info.specs.declared.fault.InfoFault.TheVariants.{InfoShort}
use Rattle.tpi_records.specs.Records.{HasRecords, IsFirstFault}
use Rattle.type_trees.specs.Types.{AreTypes}
use Rattle.checked_types.specs.Check.{HasTypeFault}
use Rattle.file_types.specs.declared.fault.PdbFault.{PdbFault}
use Rattle.file_types.specs.declared.fault.PdbFault.TheVariants as fault

-- there is a stream 1, and it has at least 28 bytes
abbrev pub HasLongInfo : List ℕ → LayoutView → Type 0
HasLongInfo file layout =
    (info : List ℕ) × (stream_contents file layout 1 ≡ Some info) × (28 ≤ length info)

-- there is a stream 1, and it has fewer than 28 bytes
abbrev pub HasShortInfo : List ℕ → LayoutView → Type 0
HasShortInfo file layout =
    (info : List ℕ) × (stream_contents file layout 1 ≡ Some info) × (length info < 28)

-- a file with this layout has these type records; they are those of its stream 2
pub record ListsRecords (file : List ℕ) (layout : LayoutView) (records : List (List ℕ)) : Type 0
  where
    pub stream : List ℕ
    pub is_stream : stream_contents file layout 2 ≡ Some stream
    pub has_records : HasRecords stream records

-- the file has a layout, and these type records
pub record HasTypeRecords (file : List ℕ) (records : List (List ℕ)) : Type 0 where
  pub layout : LayoutView
  pub has_layout : HasLayout file layout
  pub lists : ListsRecords file layout records

-- the file lists this stream on the way to its types: it is made of bytes and has a layout, these
-- are the contents of its stream 2, and it has a stream 1 of at least 28 bytes
pub record ListsStream (file stream : List ℕ) : Type 0 where
  pub bytes : AreBytes file
  pub layout : LayoutView
  pub has_layout : HasLayout file layout
  pub is_stream : stream_contents file layout 2 ≡ Some stream
  pub info : HasLongInfo file layout

-- the file is accepted with these records: it is made of bytes, it has these type records and a
-- stream 1 of at least 28 bytes, and the records are types
pub record IsAccepted (file : List ℕ) (records : List (List ℕ)) : Type 0 where
  pub bytes : AreBytes file
  pub has : HasTypeRecords file records
  pub info : HasLongInfo file has.layout
  pub types : AreTypes records

-- reads gave these records: they are the records of bytes that reads gave for stream 2 of this
-- layout
abbrev pub RecordsWereRead : Bytes → LayoutView → List (List ℕ) → Type 0
RecordsWereRead bytes layout records =
    (stream : List ℕ) × WasRead bytes layout 2 stream × HasRecords stream records

-- the layout lists a stream 1 of at least 28 bytes
abbrev pub ListsLongInfo : LayoutView → Type 0
ListsLongInfo layout =
    (info : Listed) × (slice_get layout.streams 1 ≡ Some info) × (28 ≤ bytes_of info.size)

-- reads gave these bytes of stream 2 on the way to types: the layout lists a long enough stream 1
abbrev pub StreamWasRead : Bytes → LayoutView → List ℕ → Type 0
StreamWasRead bytes layout stream = WasRead bytes layout 2 stream × ListsLongInfo layout

-- reads gave these types: the layout lists a long enough stream 1, and the records that reads gave
-- are types
abbrev pub TypesWereRead : Bytes → LayoutView → List (List ℕ) → Type 0
TypesWereRead bytes layout records =
    RecordsWereRead bytes layout records × ListsLongInfo layout × AreTypes records

-- the stream has these records, and they are types
abbrev pub HasTypes : List ℕ → List (List ℕ) → Type 0
HasTypes stream records = HasRecords stream records × AreTypes records

-- this is the first fault of the stream on the way to types: a fault of it as a stream of records,
-- else of a record, else a cycle of records
abbrev pub HasFaultOfTypes : {A : Type 0} → List ℕ → PdbFault A → Type 0
HasFaultOfTypes stream (fault.Tpi inner) = IsFirstFault stream inner
HasFaultOfTypes stream (fault.Type inner) =
    (records : List (List ℕ)) × HasRecords stream records × HasTypeFault records inner
HasFaultOfTypes stream _ = ⊥

-- this is the fault of stream 1: it is missing, or it is too short
abbrev pub HasInfoFault : {A : Type 0} → List ℕ → LayoutView → PdbFault A → Type 0
HasInfoFault file layout (fault.Stream inner) = (length layout.streams ≤ 1) × (inner ≡ NoStream 1)
HasInfoFault file layout (fault.Info inner) = HasShortInfo file layout × (inner ≡ InfoShort)
HasInfoFault file layout _ = ⊥

-- this is the first fault of stream 2: it is missing, or its bytes have this fault
abbrev pub HasStreamFault : {A : Type 0} → List ℕ → LayoutView → PdbFault A → Type 0
HasStreamFault file layout (fault.Stream inner) = (length layout.streams ≤ 2) × (inner ≡ NoStream 2)
HasStreamFault file layout (fault.Tpi inner) =
    (stream : List ℕ) × (stream_contents file layout 2 ≡ Some stream) × IsFirstFault stream inner
HasStreamFault file layout _ = ⊥

-- this is the fault of the layout
abbrev pub IsLayoutFault : {A : Type 0} → List ℕ → PdbFault A → Type 0
IsLayoutFault file (fault.Msf inner) = first_failing (layout_checks file) ≡ Some inner
IsLayoutFault file _ = ⊥

-- this is the first fault of the file on the way to its type records: a fault of its layout, else
-- of stream 2
abbrev pub HasRecordsFault : {A : Type 0} → List ℕ → PdbFault A → Type 0
HasRecordsFault file (fault.Msf inner) = first_failing (layout_checks file) ≡ Some inner
HasRecordsFault file inner =
    (layout : LayoutView) × HasLayout file layout × HasStreamFault file layout inner

-- this is the first fault of the file on the way to its types: a fault of its layout, else of
-- stream 1, else of stream 2, else of a record, else a cycle of records
abbrev pub HasPdbFault : {A : Type 0} → List ℕ → PdbFault A → Type 0
HasPdbFault file (fault.Msf inner) = first_failing (layout_checks file) ≡ Some inner
HasPdbFault file (fault.Type inner) =
    (records : List (List ℕ)) × (has : HasTypeRecords file records) × HasLongInfo file has.layout
    × HasTypeFault records inner
HasPdbFault file inner =
    (layout : LayoutView) × HasLayout file layout
    × (HasInfoFault file layout inner
    ⊎ (HasLongInfo file layout × HasStreamFault file layout inner))

-- ---- files whose bytes need not be known: the first faults of what reads gave

-- the layout refuses its stream 1: it is missing, or it is too short
abbrev pub HasInfoFaultRead : {A : Type 0} → LayoutView → PdbFault A → Type 0
HasInfoFaultRead layout (fault.Stream inner) = (length layout.streams ≤ 1) × (inner ≡ NoStream 1)
HasInfoFaultRead layout (fault.Info inner) =
    (info : Listed) × (slice_get layout.streams 1 ≡ Some info) × (bytes_of info.size < 28)
    × (inner ≡ InfoShort)
HasInfoFaultRead layout _ = ⊥

-- stream 2 of this layout has this fault: the stream is missing, or reads gave bytes for it, and
-- this is their first fault
abbrev pub HasStreamFaultRead : {A : Type 0} → Bytes → LayoutView → PdbFault A → Type 0
HasStreamFaultRead bytes layout (fault.Stream inner) =
    (length layout.streams ≤ 2) × (inner ≡ NoStream 2)
HasStreamFaultRead bytes layout (fault.Tpi inner) =
    (stream : List ℕ) × WasRead bytes layout 2 stream × IsFirstFault stream inner
HasStreamFaultRead bytes layout _ = ⊥

-- reads gave records for stream 2 of this layout, and this is their first fault as types
abbrev pub HasTypeFaultRead : {A : Type 0} → Bytes → LayoutView → PdbFault A → Type 0
HasTypeFaultRead bytes layout (fault.Type inner) =
    (records : List (List ℕ)) × RecordsWereRead bytes layout records × HasTypeFault records inner
HasTypeFaultRead bytes layout _ = ⊥

-- this is the first fault on the way to the types of this layout: one of stream 1, else of stream
-- 2, else of a record, else a cycle of records
abbrev pub HasPdbFaultRead : {A : Type 0} → Bytes → LayoutView → PdbFault A → Type 0
HasPdbFaultRead bytes layout inner =
    HasInfoFaultRead layout inner
    ⊎ (ListsLongInfo layout
    × (HasStreamFaultRead bytes layout inner ⊎ HasTypeFaultRead bytes layout inner))

-- reads gave bytes of a container, and its layout has this fault, which is not out of memory
abbrev pub IsLayoutFaultRead : {A : Type 0} → Bytes → PdbFault A → Type 0
IsLayoutFaultRead bytes (fault.Msf inner) = TextsRefuse bytes inner × (inner ≢ msf.Memory)
IsLayoutFaultRead bytes _ = ⊥

-- reads gave bytes with this fault: the layout has it, or reads gave a layout without a fault and
-- what they gave of its streams has it
abbrev pub HasFaultOfTexts : {A : Type 0} → (Bytes → LayoutView → PdbFault A → Type 0) → Bytes
    → PdbFault A → Type 0
HasFaultOfTexts Refuses bytes inner =
    IsLayoutFaultRead bytes inner
    ⊎ ((layout : LayoutView) × HasTexts bytes layout × Refuses bytes layout inner)
