-- What the command `records` prints.
use Rattle.std.specs.Prelude.{ℕ, ◌≡◌, List}
use Rattle.byte_io.specs.At.{Bytes}
use Rattle.msf_blocks.specs.Layout.{LayoutView}
use Rattle.file_types.specs.Read.{HasTypeRecords, RecordsWereRead, HasRecordsFault, HasStreamFaultRead}
use Rattle.output_lines.specs.Records.{record_lines}
use Rattle.show_commands.specs.declared.fault.RunFault.{RunFault}
use Rattle.show_commands.specs.declared.fault.RunFault.TheVariants.{Pdb}
use Rattle.tpi_records.specs.Header.{first_index}

-- `records` prints this text for the file: a line for each of its type records
abbrev pub ShowsRecords : List ℕ → List ℕ → Type 0
ShowsRecords file text =
    (records : List (List ℕ)) × HasTypeRecords file records
    × (text ≡ record_lines first_index records)

-- `records` prints this text of what reads gave: the records of this layout
abbrev pub ShowsRecordsRead : Bytes → LayoutView → List ℕ → Type 0
ShowsRecordsRead bytes layout text =
    (records : List (List ℕ)) × RecordsWereRead bytes layout records
    × (text ≡ record_lines first_index records)

-- this is the first fault of the file on the way to its type records
abbrev pub RefusesRecords : {A : Type 0} → List ℕ → RunFault A → Type 0
RefusesRecords file (Pdb fault) = HasRecordsFault file fault
RefusesRecords file _ = ⊥

-- `records` refuses what reads gave of this layout with this fault, which is a fault of its stream
-- 2
abbrev pub RefusesRecordsRead : {A : Type 0} → Bytes → LayoutView → RunFault A → Type 0
RefusesRecordsRead bytes layout (Pdb fault) = HasStreamFaultRead bytes layout fault
RefusesRecordsRead bytes layout _ = ⊥
