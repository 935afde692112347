-- The named stream map and the feature codes, which follow the header of the info stream
-- ("The PDB Info Stream", "Named Stream Map" and "PDB Feature Codes").
use Rattle.std.specs.Prelude.{ℕ, Bool, ◌-◌, ◌&&◌, if◌then◌else◌, ◌≡◌, ◌≢◌, ◌⊎◌, ◌+◌, ◌*◌, ◌/◌, ◌%◌, ◌^◌, ◌<◌, ◌≤◌, ◌==◌, nat_le, All, Contains, List, [], ◌∷◌, ◌++◌, length, map, take, drop, get_or, sum_by, count_ones, filter}
use Rattle.std.specs.List.{range_with_len, flat_map, before_first, list_any}
use Rattle.byte_fields.specs.Number.{number_at, four_bytes, u32s}
use Rattle.byte_fields.specs.Check.{Check}
use Rattle.pdb_info.specs.declared.map.NameMap.{NameMap}
use Rattle.pdb_info.specs.declared.fault.InfoFault.{InfoFault}
use Rattle.pdb_info.specs.declared.fault.InfoFault.TheVariants.{NamesShort, NamesCount, NameOffset}

-- a stream with its name
pub record NamedStream : Type 0 where
  pub text : List ℕ
  pub stream : ℕ

-- a pair of the map: the offset of the name in the buffer, and the number of the stream
pub record Pair : Type 0 where
  pub name_offset : ℕ
  pub stream : ℕ

-- the numbers of a pair
abbrev pub pair_numbers : Pair → List ℕ
pair_numbers pair = pair.name_offset ∷ pair.stream ∷ []

-- the name of a pair has an end: the buffer has a NUL at its offset or after it
abbrev pub HasName : List ℕ → Pair → Type 0
HasName buffer pair = Contains (drop pair.name_offset buffer) 0

-- the stream of a pair, with its name: the bytes of the buffer from the offset up to the next NUL
abbrev pub named_in : List ℕ → Pair → NamedStream
named_in buffer pair =
    record {
      text = before_first (λ byte. byte == 0) (drop pair.name_offset buffer);
      stream = pair.stream;
    }

-- how many buckets are present: how many bits of the present words are 1
abbrev pub present_count : List ℕ → ℕ
present_count present = sum_by count_ones present

-- bucket 32 * w + b is present: bit b of present word w, counted from the lowest, is 1
abbrev pub is_present : List ℕ → ℕ → Bool
is_present present bucket = get_or present (bucket / 32) 0 / 2 ^ (bucket % 32) % 2 == 1

-- the buckets below a number that are present, in rising order
abbrev pub buckets_below : List ℕ → ℕ → List ℕ
buckets_below present count = filter (is_present present) (range_with_len 0 count)

-- the present buckets in rising order
unfoldable pub present_buckets : List ℕ → List ℕ
present_buckets present = buckets_below present (32 * length present)

-- feature codes without a closing word before them do not begin with 0,
-- which would be a closing word
abbrev pub IsUnclosed : List ℕ → Type 0
IsUnclosed [] = Unit {0}
IsUnclosed (feature ∷ features) = feature ≢ 0

-- the closing word is 0; it may be absent only if the feature codes do not begin with 0
abbrev pub IsClosing : List ℕ → List ℕ → Type 0
IsClosing closing features = (closing ≡ 0 ∷ []) ⊎ ((closing ≡ []) × IsUnclosed features)

-- all numbers after the buffer, in order
abbrev pub table_numbers : ℕ → ℕ → List ℕ → List ℕ → List Pair → List ℕ → List ℕ → List ℕ
table_numbers size capacity present deleted pairs closing features =
    size ∷ capacity ∷ length present ∷ present
    ++ length deleted ∷ deleted
    ++ flat_map pair_numbers pairs
    ++ closing
    ++ features

-- after the header come the length of the buffer, the buffer, the numbers of the map,
-- the feature codes, and at most three more bytes; Size counts the present buckets,
-- and there is a pair for each of them, in rising order
pub record HasNames (stream : List ℕ) (names : List NamedStream) (features : List ℕ) : Type 0 where
  pub buffer : List ℕ
  pub size : ℕ
  pub capacity : ℕ
  pub present : List ℕ
  pub deleted : List ℕ
  pub pairs : List Pair
  pub closing : List ℕ
  pub rest : List ℕ
  pub parts :
      drop 28 stream
      ≡ four_bytes (length buffer) ++ buffer
      ++ u32s (table_numbers size capacity present deleted pairs closing features) ++ rest
  pub short : length buffer < 2 ^ 32
  pub small :
      All (λ number. number < 2 ^ 32)
      (table_numbers size capacity present deleted pairs closing features)
  pub few : length rest < 4
  pub counted : present_count present ≡ size
  pub paired : length pairs ≡ length (present_buckets present)
  pub closed : IsClosing closing features
  pub each : All (HasName buffer) pairs
  pub named : names ≡ map (named_in buffer) pairs

-- ---- the checks, by the offsets of the fields

-- a field of `count` bytes fits at an offset
abbrev pub field_check : List ℕ → ℕ → ℕ → Check InfoFault
field_check stream offset count =
    record { holds = nat_le (offset + count) (length stream); fault = NamesShort offset }

-- the offset of Size, which follows the buffer
unfoldable pub size_offset : List ℕ → ℕ
size_offset stream = 32 + number_at 4 stream 28

-- Size: how many streams the map says that it has
abbrev pub size_of : List ℕ → ℕ
size_of stream = number_at 4 stream (size_offset stream)

-- how many present words there are
abbrev pub present_words : List ℕ → ℕ
present_words stream = number_at 4 stream (size_offset stream + 8)

-- the offset of the first present word
abbrev pub present_offset : List ℕ → ℕ
present_offset stream = size_offset stream + 12

-- the offset of the number of deleted words
unfoldable pub deleted_offset : List ℕ → ℕ
deleted_offset stream = present_offset stream + 4 * present_words stream

-- how many deleted words there are
abbrev pub deleted_words : List ℕ → ℕ
deleted_words stream = number_at 4 stream (deleted_offset stream)

-- the offset of the first pair
unfoldable pub pairs_offset : List ℕ → ℕ
pairs_offset stream = deleted_offset stream + 4 + 4 * deleted_words stream

-- `count` numbers from an offset on
abbrev pub numbers_at : List ℕ → ℕ → ℕ → List ℕ
numbers_at stream offset count =
    map (λ k. number_at 4 stream (offset + 4 * k)) (range_with_len 0 count)

-- the present words
unfoldable pub present_of : List ℕ → List ℕ
present_of stream = numbers_at stream (present_offset stream) (present_words stream)

-- the string buffer
unfoldable pub buffer_of : List ℕ → List ℕ
buffer_of stream = take (number_at 4 stream 28) (drop 32 stream)

-- the checks of the fields before the pairs, in order
unfoldable pub map_checks : List ℕ → List (Check InfoFault)
map_checks stream =
    field_check stream 28 4
    ∷ field_check stream 32 (number_at 4 stream 28)
    ∷ field_check stream (size_offset stream) 4
    ∷ field_check stream (size_offset stream + 4) 4
    ∷ field_check stream (size_offset stream + 8) 4
    ∷ field_check stream (present_offset stream) (4 * present_words stream)
    ∷ field_check stream (deleted_offset stream) 4
    ∷ field_check stream (deleted_offset stream + 4) (4 * deleted_words stream)
    ∷ record {
      holds = size_of stream == present_count (present_of stream);
      fault = NamesCount (size_of stream) (present_count (present_of stream));
    }
    ∷ []

-- the offset of the k-th pair
abbrev pub pair_offset : List ℕ → ℕ → ℕ
pair_offset stream k = pairs_offset stream + 8 * k

-- whether the name at an offset of a buffer has an end
abbrev pub is_named : List ℕ → ℕ → Bool
is_named buffer offset = list_any (λ byte. byte == 0) (drop offset buffer)

-- the checks of the k-th pair: it fits, and its name has an end
unfoldable pub pair_checks : List ℕ → ℕ → List (Check InfoFault)
pair_checks stream k =
    field_check stream (pair_offset stream k) 8
    ∷ record {
      holds = is_named (buffer_of stream) (number_at 4 stream (pair_offset stream k));
      fault = NameOffset (get_or (present_buckets (present_of stream)) k 0);
    }
    ∷ []

-- ---- the map during reading

-- the offsets and counts of a named stream map that passed its checks
pub record IsMap (stream : List ℕ) (m : NameMap) : Type 0 where
  pub size_offset_is : m.size_offset ≡ size_offset stream
  pub pairs_offset_is : m.pairs_offset ≡ pairs_offset stream
  pub size_is : m.size ≡ size_of stream
  pub u32s_are : m.present_words ≡ present_words stream
  pub present : present_offset stream + 4 * present_words stream ≤ length stream
  pub pairs : pairs_offset stream ≤ length stream
  pub counted : size_of stream ≡ present_count (present_of stream)

-- the k-th pair, read at its offset
unfoldable pub pair_at : List ℕ → ℕ → Pair
pair_at stream k =
    record {
      name_offset = number_at 4 stream (pair_offset stream k);
      stream = number_at 4 stream (pair_offset stream k + 4);
    }

-- the first pairs, read at their offsets
abbrev pub pairs_below : List ℕ → ℕ → List Pair
pairs_below stream count = map (pair_at stream) (range_with_len 0 count)

-- the streams of the first pairs, with their names
abbrev pub names_below : List ℕ → ℕ → List NamedStream
names_below stream count = map (named_in (buffer_of stream)) (pairs_below stream count)

-- the offset after the last pair
unfoldable pub pairs_end : List ℕ → ℕ
pairs_end stream = pairs_offset stream + 8 * size_of stream

-- whether the closing word follows the pairs
unfoldable pub is_closed : List ℕ → Bool
is_closed stream =
    nat_le (pairs_end stream + 4) (length stream) && number_at 4 stream (pairs_end stream) == 0

-- the offset of the feature codes
unfoldable pub features_offset : List ℕ → ℕ
features_offset stream = if is_closed stream then pairs_end stream + 4 else pairs_end stream

-- the feature codes, read at their offsets
unfoldable pub features_of : List ℕ → List ℕ
features_of stream =
    numbers_at stream (features_offset stream) ((length stream - features_offset stream) / 4)
