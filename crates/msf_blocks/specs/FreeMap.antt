-- The free block map in force ("The MSF File Format", "The Free Block Map").
use Rattle.std.specs.Prelude.{ℕ, ◌≡◌, ◌+◌, ◌-◌, ◌*◌, ◌/◌, ◌%◌, ◌^◌, ◌<◌, ◌==◌, ◌&&◌, nat_lt, min, Bool, false, count_by, List, length, map, get_or, slice_index, if◌then◌else◌}
use Rattle.std.specs.List.{range_with_len}
use Rattle.byte_io.specs.At.{AreGiven, Bytes}
use lib.ListN.{replicate}
use Rattle.msf_superblock.specs.Superblock.{Fields}

-- for how many blocks one map block has a bit
abbrev pub blocks_per_map_block : Fields → ℕ
blocks_per_map_block fields = 8 * fields.block_size

-- the number of the map block with the bit of a block: map block k of a map is in interval k
abbrev pub map_block_of : Fields → ℕ → ℕ
map_block_of fields block =
    block / blocks_per_map_block fields * fields.block_size + fields.free_map_block

-- the byte with the bit of a block
abbrev pub map_byte_of : List ℕ → Fields → ℕ → ℕ
map_byte_of file fields block =
    slice_index file
    (map_block_of fields block * fields.block_size + block % blocks_per_map_block fields / 8)

-- the block is free: the map block with its bit is in the file, and this bit, counted from the
-- lowest, is 1
abbrev pub is_free : List ℕ → Fields → ℕ → Bool
is_free file fields block =
    nat_lt (map_block_of fields block) fields.num_blocks
    && map_byte_of file fields block / 2 ^ (block % blocks_per_map_block fields % 8) % 2 == 1

-- how many blocks of the file are free
unfoldable pub free_blocks : List ℕ → Fields → ℕ
free_blocks file fields = count_by (is_free file fields) (range_with_len 0 fields.num_blocks)

-- ---- the free block map in force, of which one block is read at a time

-- whether a bit of a map block is 1, counted from the lowest bit of its first byte
abbrev pub bit_of : List ℕ → ℕ → Bool
bit_of map_block bit = slice_index map_block (bit / 8) / 2 ^ (bit % 8) % 2 == 1

-- the block is free, by the map block with its bit, if that is in the file
abbrev pub is_free_by : List ℕ → Fields → ℕ → Bool
is_free_by map_block fields block =
    nat_lt (map_block_of fields block) fields.num_blocks
    && bit_of map_block (block % blocks_per_map_block fields)

-- reads gave the map block with the bit of this block, if that map block is in the file
abbrev pub IsMapGiven : Bytes → Fields → ℕ → List ℕ → Type 0
IsMapGiven bytes fields block map_block =
    map_block_of fields block < fields.num_blocks
    → AreGiven bytes (map_block_of fields block * fields.block_size) map_block

-- the same, unless the block is the first that has its bit in this map block
abbrev pub IsMapHeld : Bytes → Fields → ℕ → List ℕ → Type 0
IsMapHeld bytes fields block map_block =
    (block % blocks_per_map_block fields ≡ 0 → ⊥) → IsMapGiven bytes fields block map_block

-- reads gave a map block with this mark of a block: whether the block is free
pub record IsMark (bytes : Bytes) (fields : Fields) (block : ℕ) (mark : Bool) : Type 0 where
  pub map_block : List ℕ
  pub room : length map_block ≡ fields.block_size
  pub given : IsMapGiven bytes fields block map_block
  pub mark_is : mark ≡ is_free_by map_block fields block

-- reads gave these marks of the first blocks of the file
abbrev pub AreMarks : Bytes → Fields → List Bool → Type 0
AreMarks bytes fields marks =
    (block : ℕ) → block < length marks → IsMark bytes fields block (get_or marks block false)

-- reads gave marks of the first `end` blocks of the file, and `free` of these marks say that the
-- block is free
pub record IsFreeCount (bytes : Bytes) (fields : Fields) (end free : ℕ) : Type 0 where
  pub marks : List Bool
  pub count : length marks ≡ end
  pub given : AreMarks bytes fields marks
  pub free_is : free ≡ count_by (λ mark. mark) marks

-- ---- the map blocks of a file in which every block is in use

-- the byte of map 1 for the eight blocks that begin with block `first`: from the lowest bit on, the
-- bits of blocks of the file are 0, and all others are 1
abbrev pub map_byte : ℕ → ℕ → ℕ
map_byte num_blocks first = 256 - 2 ^ min 8 (num_blocks - first)

-- the map block that is block k of the file: the second block of an interval belongs to map 1 and
-- has a bit for each of many blocks; the third belongs to map 2, and all its bytes are 0xFF
unfoldable pub map_block : ℕ → ℕ → ℕ → List ℕ
map_block block_size num_blocks k =
    if k % block_size == 1 then map
    (λ i. map_byte num_blocks (8 * (block_size * (k / block_size) + i)))
    (range_with_len 0 block_size)
    else replicate block_size 255
