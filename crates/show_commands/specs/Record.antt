-- What the command `record` prints.
use Rattle.std.specs.Prelude.{ℕ, ◌≡◌, ◌-◌, nat_le, List, ◌++◌, Option, Some, None, if◌then◌else◌, slice_get}
use Rattle.std.specs.List.{flat_map}
use Rattle.byte_fields.specs.Check.{first_failing}
use Rattle.cv_leaves.specs.Checks.{record_checks}
use Rattle.cv_leaves.specs.Place.{HasPlaces}
use Rattle.cv_leaves.specs.Name.{name_of}
use Rattle.byte_io.specs.At.{Bytes}
use Rattle.msf_blocks.specs.Layout.{LayoutView}
use Rattle.file_types.specs.Read.{HasTypeRecords, RecordsWereRead}
use Rattle.output_lines.specs.Record.{bytes_line, place_line, name_lines}
use Rattle.show_commands.specs.Records.{RefusesRecords, RefusesRecordsRead}
use Rattle.show_commands.specs.declared.fault.RunFault.{RunFault}
use Rattle.show_commands.specs.declared.fault.RunFault.TheVariants.{NoRecord, Leaf}
use Rattle.tpi_records.specs.Header.{first_index}

-- the record that has this type index; the first of these records has the index 0x1000
unfoldable pub record_of : List (List ℕ) → ℕ → Option (List ℕ)
record_of records index =
    if nat_le first_index index then slice_get records (index - first_index) else None

-- `record` prints this text for the file and the type index: the bytes of the record, its places,
-- its name
pub record ShowsRecord (index : ℕ) (file text : List ℕ) : Type 0 where
  pub records : List (List ℕ)
  pub has_records : HasTypeRecords file records
  pub bytes : List ℕ
  pub is_record : record_of records index ≡ Some bytes
  pub places : List ℕ
  pub has_places : HasPlaces bytes places
  pub lines :
      text ≡ bytes_line bytes ++ flat_map (place_line bytes) places ++ name_lines (name_of bytes)

-- `record` prints this text for the type index of what reads gave
pub record ShowsRecordRead (index : ℕ) (bytes : Bytes) (layout : LayoutView) (text : List ℕ)
    : Type 0 where
  pub records : List (List ℕ)
  pub were_read : RecordsWereRead bytes layout records
  pub found : List ℕ
  pub is_record : record_of records index ≡ Some found
  pub places : List ℕ
  pub has_places : HasPlaces found places
  pub lines :
      text ≡ bytes_line found ++ flat_map (place_line found) places ++ name_lines (name_of found)

-- this is the first fault on the way to the record of this type index: a fault of the file's type
-- records, else that none has the index, else a fault of that record
abbrev pub RefusesRecord : {A : Type 0} → ℕ → List ℕ → RunFault A → Type 0
RefusesRecord index file (NoRecord missing) =
    (records : List (List ℕ)) × HasTypeRecords file records × (missing ≡ index)
    × (record_of records index ≡ None)
RefusesRecord index file (Leaf at fault) =
    (records : List (List ℕ)) × (bytes : List ℕ) × HasTypeRecords file records × (at ≡ index)
    × (record_of records index ≡ Some bytes) × (first_failing (record_checks bytes) ≡ Some fault)
RefusesRecord index file fault = RefusesRecords file fault

-- `record` refuses what reads gave of this layout with this fault: a fault of its type records,
-- else that none has the index, else a fault of that record
abbrev pub RefusesRecordRead : {A : Type 0} → ℕ → Bytes → LayoutView → RunFault A → Type 0
RefusesRecordRead index bytes layout (NoRecord missing) =
    (records : List (List ℕ)) × RecordsWereRead bytes layout records × (missing ≡ index)
    × (record_of records index ≡ None)
RefusesRecordRead index bytes layout (Leaf at fault) =
    (records : List (List ℕ)) × (found : List ℕ) × RecordsWereRead bytes layout records
    × (at ≡ index) × (record_of records index ≡ Some found)
    × (first_failing (record_checks found) ≡ Some fault)
RefusesRecordRead index bytes layout fault = RefusesRecordsRead bytes layout fault
