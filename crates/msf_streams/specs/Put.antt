-- An image during writing: the data, with the map blocks between its bytes.
use Rattle.std.specs.Prelude.{ℕ, ◌≡◌, ◌+◌, ◌-◌, ◌*◌, ◌/◌, ◌%◌, ◌<◌, ◌==◌, ◌&&◌, nat_le, nat_lt, if◌then◌else◌, Bool, List, [], ◌∷◌, ◌++◌, Option, length, take}
use Rattle.std.specs.Io.KnownBytes.{Appends}
use Rattle.msf_superblock.specs.BlockNumber.{IsBlockSize}
use Rattle.msf_blocks.specs.FreeMap.{map_block}
use Rattle.msf_streams.specs.Image.{Fits, image_blocks, superblock_part, block_map_part, directory_part}

-- the length of a stretch:
-- how many bytes of data are between the map blocks of one interval and those of the next
unfoldable pub stretch : ℕ → ℕ
stretch block_size = block_size * (block_size - 2)

-- two map blocks come right before byte p of the data: it is the first byte of a stretch,
-- and the first stretch begins after one block
abbrev pub follows_maps : ℕ → ℕ → Bool
follows_maps block_size p = nat_le block_size p && (p - block_size) % stretch block_size == 0

-- the two map blocks of interval q
abbrev pub maps_of : ℕ → ℕ → ℕ → List ℕ
maps_of block_size num_blocks q =
    map_block block_size num_blocks (q * block_size + 1)
    ++ map_block block_size num_blocks (q * block_size + 2)

-- the map blocks right before byte p of the data, if there are any
unfoldable pub maps_before : ℕ → ℕ → ℕ → List ℕ
maps_before block_size num_blocks p =
    if follows_maps block_size p
    then maps_of block_size num_blocks ((p - block_size) / stretch block_size)
    else []

-- the data from byte p on, with the map blocks that come before its bytes
unfoldable pub woven : ℕ → ℕ → ℕ → List ℕ → List ℕ
woven block_size num_blocks p [] = []
woven block_size num_blocks p (byte ∷ bytes) =
    maps_before block_size num_blocks p ++ byte ∷ woven block_size num_blocks (p + 1) bytes

-- a writer of an image: how many bytes a block has, how many blocks the image has,
-- and the position where the next byte goes
pub record WriterView : Type 0 where
  pub block_size : ℕ
  pub num_blocks : ℕ
  pub position : ℕ

-- a writer of the same image: only its position may be another
pub record IsSameImage (old new : WriterView) : Type 0 where
  pub block_size : new.block_size ≡ old.block_size
  pub num_blocks : new.num_blocks ≡ old.num_blocks

-- some data from the position of a writer on, with the map blocks that come before its bytes
abbrev pub woven_from : WriterView → List ℕ → List ℕ
woven_from writer bytes = woven writer.block_size writer.num_blocks writer.position bytes

-- how many bytes of data there are from byte p on, up to the next map blocks
unfoldable pub room : ℕ → ℕ → ℕ
room block_size p =
    if nat_lt p block_size then block_size - p
    else stretch block_size - (p - block_size) % stretch block_size

-- a sink took a proper prefix of these bytes, and no more
abbrev pub AppendsPart : Option (List ℕ) → Option (List ℕ) → List ℕ → Type 0
AppendsPart old new bytes =
    (count : ℕ) × (count < length bytes) × Appends old new (take count bytes)

-- blocks may have this size, streams of these sizes fit in a file of `num_blocks` blocks,
-- and these are the parts of its image before the streams
pub record IsImageFront (block_size num_blocks : ℕ) (sizes superblock block_map directory : List ℕ)
    : Type 0 where
  pub size : IsBlockSize block_size
  pub fits : Fits block_size sizes
  pub count : num_blocks ≡ image_blocks block_size sizes
  pub superblock_is : superblock ≡ superblock_part block_size sizes
  pub block_map_is : block_map ≡ block_map_part block_size sizes
  pub directory_is : directory ≡ directory_part block_size sizes
