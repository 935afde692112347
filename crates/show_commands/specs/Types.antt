-- What the command `types` prints.
use Rattle.std.specs.Prelude.{ℕ, ◌≡◌, ◌+◌, List, [], ◌∷◌, ◌++◌, Some, length}
use Rattle.std.specs.List.{AllByRecursion}
use Rattle.byte_fields.specs.Check.{first_failing}
use Rattle.cv_leaves.specs.Checks.{record_checks}
use Rattle.cv_leaves.specs.Place.{HasPlaces, IsChecked}
use Rattle.cv_leaves.specs.declared.fault.LeafFault.{LeafFault}
use Rattle.byte_io.specs.At.{Bytes}
use Rattle.msf_blocks.specs.Layout.{LayoutView}
use Rattle.file_types.specs.Read.{RecordsWereRead, HasTypeRecords}
use Rattle.output_lines.specs.Types.{type_line}
use Rattle.show_commands.specs.Records.{RefusesRecords, RefusesRecordsRead}
use Rattle.show_commands.specs.declared.fault.RunFault.{RunFault}
use Rattle.show_commands.specs.declared.fault.RunFault.TheVariants.{Leaf}
use Rattle.tpi_records.specs.Header.{first_index}

-- the text is the lines of these records in order; the first record has this type index
abbrev pub AreTypeLines : ℕ → List (List ℕ) → List ℕ → Type 0
AreTypeLines index [] text = text ≡ []
AreTypeLines index (bytes ∷ others) text =
    (places : List ℕ) × (back : List ℕ) × HasPlaces bytes places
    × AreTypeLines (index + 1) others back × (text ≡ type_line index bytes places ++ back)

-- `types` prints this text for the file: a line for each of its type records
abbrev pub ShowsTypes : List ℕ → List ℕ → Type 0
ShowsTypes file text =
    (records : List (List ℕ)) × HasTypeRecords file records × AreTypeLines first_index records text

-- `types` prints this text of what reads gave: the records of this layout
abbrev pub ShowsTypesRead : Bytes → LayoutView → List ℕ → Type 0
ShowsTypesRead bytes layout text =
    (records : List (List ℕ)) × RecordsWereRead bytes layout records
    × AreTypeLines first_index records text

-- the first of these records whose leaf is at fault has this type index and this fault
abbrev pub HasLeafFault : List (List ℕ) → ℕ → LeafFault → Type 0
HasLeafFault records index fault =
    (before : List (List ℕ)) × (bytes : List ℕ) × (after : List (List ℕ))
    × (records ≡ before ++ bytes ∷ after)
    × AllByRecursion IsChecked before × (index ≡ first_index + length before)
    × (first_failing (record_checks bytes) ≡ Some fault)

-- this is the first fault on the way to the types: a fault of the file's type records, else that of
-- the first record whose leaf is at fault
abbrev pub RefusesTypes : {A : Type 0} → List ℕ → RunFault A → Type 0
RefusesTypes file (Leaf index fault) =
    (records : List (List ℕ)) × HasTypeRecords file records × HasLeafFault records index fault
RefusesTypes file fault = RefusesRecords file fault

-- `types` refuses what reads gave of this layout with this fault: a fault of its type records, else
-- that of the first record whose leaf is at fault
abbrev pub RefusesTypesRead : {A : Type 0} → Bytes → LayoutView → RunFault A → Type 0
RefusesTypesRead bytes layout (Leaf index fault) =
    (records : List (List ℕ)) × RecordsWereRead bytes layout records
    × HasLeafFault records index fault
RefusesTypesRead bytes layout fault = RefusesRecordsRead bytes layout fault
