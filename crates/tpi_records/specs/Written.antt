-- The header of a TPI stream that is written ("The PDB TPI and IPI Streams", "Stream Header").
use Rattle.std.specs.Prelude.{ℕ, ◌≡◌, ◌+◌, List, [], ◌∷◌, ◌++◌, length}
use Rattle.std.specs.List.{concat, AllByRecursion}
use Rattle.byte_fields.specs.Number.{u32s}
use Rattle.tpi_records.specs.Records.{IsRecord, HasRecords}
use Rattle.tpi_records.specs.Header.{first_index}

-- the numbers of the header: the version, the header's length, the first type index,
-- the type index after the last record, the length of the records in bytes;
-- two stream numbers of 0xFFFF, for no hash stream and no auxiliary hash stream;
-- the length of a hash value, the number of hash buckets;
-- and an offset and a length of 0 for each of three absent tables
abbrev pub header_numbers : ℕ → ℕ → List ℕ
header_numbers count bytes =
    20040203 ∷ 56 ∷ first_index ∷ (first_index + count) ∷ bytes ∷ 0xFFFFFFFF ∷ 4 ∷ 0x3FFFF ∷ 0 ∷ 0
    ∷ 0 ∷ 0 ∷ 0 ∷ 0 ∷ []

-- the header of a stream with `count` records, which have `bytes` bytes together
unfoldable pub header_bytes : ℕ → ℕ → List ℕ
header_bytes count bytes = u32s (header_numbers count bytes)

-- a stream that begins with this header and continues with `count` records of `bytes` bytes
-- together has these records
abbrev pub HeadsRecords : List ℕ → ℕ → ℕ → Type 0
HeadsRecords header count bytes =
    (records : List (List ℕ)) (rest : List ℕ)
    → AllByRecursion IsRecord records
    → length records ≡ count
    → length (concat records) ≡ bytes
    → HasRecords (header ++ (concat records ++ rest)) records
