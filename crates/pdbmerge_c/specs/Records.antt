-- Where the records of a TPI stream begin.
use Rattle.std.specs.Prelude.{ℕ, ◌≡◌, ◌⊎◌, ◌<◌, ◌+◌, List, length, get_or}
use Rattle.tpi_records.specs.Fault.{tpi_number}
use Rattle.tpi_records.specs.Records.{HasRecords, IsFirstFault, start_of}
use Rattle.tpi_records.specs.declared.fault.TpiFault.{TpiFault}
use Rattle.tpi_records.specs.declared.fault.TpiFault.TheVariants.{Memory}
use Rattle.pdbmerge_c.specs.declared.fault.Fault.{Fault}
use Rattle.pdbmerge_c.specs.Fault.{Tells}

-- there is an offset for each record of the stream, and the record begins there:
-- behind the header and the records before it
pub record AreOffsets (stream offsets : List ℕ) : Type 0 where
  pub records : List (List ℕ)
  pub has : HasRecords stream records
  pub many : length offsets ≡ length records
  pub each : (i : ℕ) → i < length records → get_or offsets i 0 ≡ 56 + start_of records i

-- this is the first fault of the stream; or memory ran out, and the stream has no fault
abbrev pub IsFaultOfRecords : List ℕ → TpiFault → Type 0
IsFaultOfRecords stream why =
    IsFirstFault stream why
    ⊎ ((why ≡ Memory) × ((records : List (List ℕ)) × HasRecords stream records))

-- what is told is such a fault
abbrev pub RefusesRecords : List ℕ → Fault → Type 0
RefusesRecords stream = Tells (IsFaultOfRecords stream) tpi_number
