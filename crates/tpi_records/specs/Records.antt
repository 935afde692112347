-- The records of a TPI stream, one after the other ("The PDB TPI and IPI Streams", "Type Records").
use Rattle.std.specs.Prelude.{map, ℕ, zero, suc, ◌≡◌, ◌≢◌, ◌+◌, ◌*◌, ◌/◌, ◌%◌, ◌^◌, ◌<◌, ◌≤◌, ◌⊎◌, Some, List, [], ◌∷◌, ◌++◌, length, take, drop, get_or}
use Rattle.std.specs.List.{concat, range_with_len, AllByRecursion}
use Rattle.byte_fields.specs.Number.{number_at}
use Rattle.byte_fields.specs.Check.{first_failing}
use Rattle.tpi_records.specs.Header.{first_index, Header, HasTpiHeader, header_checks}
use Rattle.tpi_records.specs.declared.fault.TpiFault.{TpiFault}
use Rattle.tpi_records.specs.declared.fault.TpiFault.TheVariants.{RecordShort, RecordLen, RecordCount}

-- a record has 4 to 65,536 bytes, a multiple of four;
-- its first two bytes are the length of what follows them
pub record IsRecord (r : List ℕ) : Type 0 where
  pub long : 4 ≤ length r
  pub short : length r ≤ 65536
  pub padded : length r % 4 ≡ 0
  pub len : number_at 2 r 0 + 2 ≡ length r

-- the stream is a header, then these records, then any rest;
-- the header says how many records and how many bytes of records there are
pub record HasRecords (stream : List ℕ) (records : List (List ℕ)) : Type 0 where
  pub header :
      HasTpiHeader stream
      (record { count = length records; record_bytes = length (concat records) })
  pub rest : List ℕ
  pub parts : drop 56 stream ≡ concat records ++ rest
  pub each : AllByRecursion IsRecord records

-- a length field may have this value: at least two bytes follow it,
-- and the whole record is a multiple of four bytes long
abbrev pub IsRecordLen : ℕ → Type 0
IsRecordLen len = (2 ≤ len) × ((len + 2) % 4 ≡ 0)

-- the bytes end within their first record: within its length field,
-- or before the length that this field gives
abbrev pub IsCutShort : List ℕ → Type 0
IsCutShort bytes =
    (length bytes < 2)
    ⊎ (IsRecordLen (number_at 2 bytes 0) × (length bytes < number_at 2 bytes 0 + 2))

-- the bytes are these records and then this rest
pub record Begins (bytes : List ℕ) (records : List (List ℕ)) (rest : List ℕ) : Type 0 where
  pub parts : bytes ≡ concat records ++ rest
  pub each : AllByRecursion IsRecord records

-- the bytes begin with this record
pub record BeginsWith (bytes r : List ℕ) : Type 0 where
  pub is_record : IsRecord r
  pub rest : List ℕ
  pub parts : bytes ≡ r ++ rest

-- the record at the front of the bytes, whose type index is this one, has this fault
abbrev pub IsFlaw : List ℕ → ℕ → TpiFault → Type 0
IsFlaw bytes expected (RecordShort index) = (index ≡ expected) × IsCutShort bytes
IsFlaw bytes expected (RecordLen index len) =
    (index ≡ expected) × (2 ≤ length bytes) × (len ≡ number_at 2 bytes 0) × ¬ IsRecordLen len
IsFlaw bytes expected _ = ⊥

-- the bytes begin with records without a fault, and the record after them has this fault
abbrev pub HasFlaw : List ℕ → TpiFault → Type 0
HasFlaw bytes fault =
    (front : List (List ℕ)) × (rest : List ℕ)
    × Begins bytes front rest
    × (0 < length rest)
    × IsFlaw rest (first_index + length front) fault

-- the bytes are records without a fault, but their number is not the one that the header says
abbrev pub IsMiscounted : List ℕ → ℕ → TpiFault → Type 0
IsMiscounted bytes said fault =
    (records : List (List ℕ))
    × Begins bytes records []
    × (fault ≡ RecordCount said (length records))
    × (said ≢ length records)

-- the bytes of the records, as the header frames them
abbrev pub framed_bytes : List ℕ → Header → List ℕ
framed_bytes stream header = take header.record_bytes (drop 56 stream)

-- this is the first fault of the stream: in its header, or else in a record,
-- or else in the number of records
abbrev pub IsFirstFault : List ℕ → TpiFault → Type 0
IsFirstFault stream fault =
    (first_failing (header_checks stream) ≡ Some fault)
    ⊎ ((header : Header) × HasTpiHeader stream header
    × (HasFlaw (framed_bytes stream header) fault
    ⊎ IsMiscounted (framed_bytes stream header) header.count fault))

-- the record that begins at this offset of the bytes
unfoldable pub record_at : List ℕ → ℕ → List ℕ
record_at bytes start = take (number_at 2 bytes start + 2) (drop start bytes)

-- the bytes, cut into records; the number bounds how many records are cut
unfoldable pub cut : ℕ → List ℕ → List (List ℕ)
cut zero bytes = []
cut (suc n) [] = []
cut (suc n) (byte ∷ bytes) =
    record_at (byte ∷ bytes) 0 ∷ cut n (drop (number_at 2 (byte ∷ bytes) 0 + 2) (byte ∷ bytes))

-- the bytes, cut into records: the length field at the front of each record gives its length
unfoldable pub records_in : List ℕ → List (List ℕ)
records_in bytes = cut (length bytes) bytes

-- the bytes are records, one after the other, and their length is a number of four bytes
pub record IsFramed (bytes : List ℕ) : Type 0 where
  pub each : AllByRecursion IsRecord (records_in bytes)
  pub whole : concat (records_in bytes) ≡ bytes
  pub short : length bytes < 2 ^ 32

-- the offset at which the record at this position begins
abbrev pub start_of : List (List ℕ) → ℕ → ℕ
start_of records position = length (concat (take position records))

-- the offsets at which the first `count` of the records 0, 64, 128 and so on begin
abbrev pub starts_below : List (List ℕ) → ℕ → List ℕ
starts_below records count = map (λ k. start_of records (64 * k)) (range_with_len 0 count)

-- how many of the records 0, 64, 128 and so on there are among this many records
abbrev pub starts_for : ℕ → ℕ
starts_for count = (count + 63) / 64

-- this is what is kept of records that fill these bytes
pub record AreRecords (bytes : List ℕ) (count : ℕ) (starts : List ℕ) : Type 0 where
  -- each of them is a record, and nothing follows them
  pub framed : IsFramed bytes
  -- there are `count` of them
  pub counted : count ≡ length (records_in bytes)
  -- these are the starts of records 0, 64, 128 and so on
  pub kept : starts ≡ starts_below (records_in bytes) (starts_for count)

-- this is the start of each of the records that fill these bytes
pub record AreIndexed (bytes : List ℕ) (starts : List ℕ) : Type 0 where
  -- each of them is a record, and nothing follows them
  pub framed : IsFramed bytes
  -- one start for each
  pub many : length starts ≡ length (records_in bytes)
  -- the start at a position is that of the record there
  pub each : (i : ℕ) → i < length starts → get_or starts i 0 ≡ start_of (records_in bytes) i
