-- The settings of a file that is written.
use Rattle.std.specs.Prelude.{ℕ, ◌≡◌, ◌≤◌, ◌+◌, ◌-◌, ◌*◌, ◌/◌, min, List, [], ◌∷◌, length}
use Rattle.byte_fields.specs.Bytes.{AreBytes}
use Rattle.msf_superblock.specs.BlockNumber.{IsBlockSize}
use Rattle.msf_streams.specs.Image.{Fits}

-- the GUID of the file (16 bytes, in the order in which it is printed), its age,
-- how many bytes its records may have together, and how many bytes a block has
pub record SettingsView : Type 0 where
  pub guid : List ℕ
  pub age : ℕ
  pub limit : ℕ
  pub block_size : ℕ

-- the highest limit
abbrev pub limit_of_records : ℕ
limit_of_records = 1073741824

-- how many bytes of records a file with blocks of this size can have,
-- so that one block can list the blocks of its directory
abbrev pub room_for_records : ℕ → ℕ
room_for_records block_size = (block_size * block_size / 16 - 7) * block_size - 56

-- how many bytes the records may have together
abbrev pub record_limit : SettingsView → ℕ
record_limit settings = min settings.limit (room_for_records settings.block_size)

-- what holds of all settings: the GUID has 16 bytes, the limit is at most the highest limit,
-- and blocks may have this size
pub record AreSettings (settings : SettingsView) : Type 0 where
  pub guid_long : length settings.guid ≡ 16
  pub guid_bytes : AreBytes settings.guid
  pub limit_fits : settings.limit ≤ limit_of_records
  pub size_fits : IsBlockSize settings.block_size

-- for each number of bytes up to the limit,
-- the streams of a file with this many bytes of records fit in it
abbrev pub RecordsFit : SettingsView → Type 0
RecordsFit settings =
    (bytes : ℕ) → bytes ≤ record_limit settings
    → Fits settings.block_size (0 ∷ 52 ∷ (56 + bytes) ∷ 0 ∷ 0 ∷ [])
