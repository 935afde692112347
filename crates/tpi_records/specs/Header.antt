-- The header of a TPI stream ("The PDB TPI and IPI Streams", "Stream Header").
use Rattle.std.specs.Prelude.{ℕ, ◌≡◌, ◌+◌, ◌-◌, ◌≤◌, ◌==◌, nat_le, List, [], ◌∷◌, length}
use Rattle.byte_fields.specs.Number.{number_at}
use Rattle.byte_fields.specs.Check.{Check}
use Rattle.tpi_records.specs.declared.fault.TpiFault.{TpiFault}
use Rattle.tpi_records.specs.declared.fault.TpiFault.TheVariants.{Short, Version, HeaderSize, Begin, End, Bytes}

-- the type index of the first record
abbrev pub first_index : ℕ
first_index = 0x1000

-- what a header says of the records: how many there are, and how many bytes they have together
pub record Header : Type 0 where
  pub count : ℕ
  pub record_bytes : ℕ

-- the stream begins with a header that says this of the records
pub record HasTpiHeader (stream : List ℕ) (header : Header) : Type 0 where
  pub long : 56 ≤ length stream
  pub version : number_at 4 stream 0 ≡ 20040203
  pub header_size : number_at 4 stream 4 ≡ 56
  pub begin : number_at 4 stream 8 ≡ first_index
  pub end : number_at 4 stream 12 ≡ first_index + header.count
  pub bytes : number_at 4 stream 16 ≡ header.record_bytes
  pub whole : header.record_bytes ≤ length stream - 56

-- the checks of a header, in the order of its fields
unfoldable pub header_checks : List ℕ → List (Check TpiFault)
header_checks stream =
    record { holds = nat_le 56 (length stream); fault = Short }
    ∷ record { holds = number_at 4 stream 0 == 20040203; fault = Version (number_at 4 stream 0) }
    ∷ record { holds = number_at 4 stream 4 == 56; fault = HeaderSize (number_at 4 stream 4) }
    ∷ record { holds = number_at 4 stream 8 == first_index; fault = Begin (number_at 4 stream 8) }
    ∷ record {
      holds = nat_le first_index (number_at 4 stream 12);
      fault = End (number_at 4 stream 12);
    }
    ∷ record {
      holds = nat_le (number_at 4 stream 16) (length stream - 56);
      fault = Bytes (number_at 4 stream 16) (length stream - 56);
    }
    ∷ []
