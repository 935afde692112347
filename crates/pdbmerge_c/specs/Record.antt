-- Where the record with a type index begins.
use Rattle.std.specs.Prelude.{ℕ, ◌≡◌, ◌≢◌, ◌<◌, ◌+◌, List, length}
use Rattle.tpi_records.specs.Header.{first_index}
use Rattle.tpi_records.specs.Records.{HasRecords, start_of}
use Rattle.pdbmerge_c.specs.declared.fault.Fault.{Fault}
use Rattle.pdbmerge_c.specs.Fault.{IsTold, no_number}

-- the record with this index begins at this offset: behind the header and the records before it
pub record BeginsAt (stream : List ℕ) (index offset : ℕ) : Type 0 where
  pub records : List (List ℕ)
  pub has : HasRecords stream records
  pub position : ℕ
  pub inside : position < length records
  pub index_is : index ≡ first_index + position
  pub offset_is : offset ≡ 56 + start_of records position

-- no record of the stream has this index
abbrev pub LacksRecord : List ℕ → ℕ → Type 0
LacksRecord stream index =
    (records : List (List ℕ))
    × HasRecords stream records
    × ((i : ℕ) → i < length records → index ≢ first_index + i)

-- what is told is that no record of the stream has this index
abbrev pub RefusesIndex : List ℕ → ℕ → Fault → Type 0
RefusesIndex stream index fault = LacksRecord stream index × IsTold fault 39 no_number
