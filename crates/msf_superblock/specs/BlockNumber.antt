-- Blocks: their sizes and their numbers ("The MSF File Format", "File Layout").
use Rattle.std.specs.Prelude.{ℕ, ◌+◌, ◌-◌, ◌*◌, ◌/◌, ◌%◌, ◌<◌, ◌==◌, ◌&&◌, ◌||◌, nat_eq, nat_lt, not, if◌then◌else◌, Bool, List, [], ◌∷◌, map}
use Rattle.std.specs.List.{Contains, range_with_len, filter}
use Rattle.std.specs.Set.{is_member}

-- the sizes that a block may have, in bytes
abbrev pub block_sizes : List ℕ
block_sizes = 512 ∷ 1024 ∷ 2048 ∷ 4096 ∷ 8192 ∷ 16384 ∷ 32768 ∷ []

-- a block may have this size
unfoldable pub IsBlockSize : ℕ → Type 0
IsBlockSize size = Contains block_sizes size

-- whether a block may have this size, as a test
unfoldable pub is_block_size : ℕ → Bool
is_block_size size = is_member nat_eq block_sizes size

-- how many blocks of this size hold this many bytes
abbrev pub blocks_for : ℕ → ℕ → ℕ
blocks_for size bytes = (bytes + size - 1) / size

-- a block may hold the bytes of a stream: it is not block 0, which has the superblock,
-- and it is a block of the file
abbrev pub IsOrdinary : ℕ → ℕ → Type 0
IsOrdinary num_blocks block = (0 < block) × (block < num_blocks)

-- whether a block may hold the bytes of a stream, as a test
abbrev pub is_ordinary : ℕ → ℕ → Bool
is_ordinary num_blocks block = nat_lt 0 block && nat_lt block num_blocks

-- ---- the blocks of the two free block maps

-- the block belongs to one of the two free block maps: it is the second or the third
-- of its interval, and an interval has as many blocks as a block has bytes
abbrev pub is_map_block : ℕ → ℕ → Bool
is_map_block size block = block % size == 1 || block % size == 2

-- the j-th block that is not a map block, from 0: the first block of each interval,
-- and each block from the fourth on
unfoldable pub nth_block : ℕ → ℕ → ℕ
nth_block size j = j / (size - 2) * size + (if j % (size - 2) == 0 then 0 else j % (size - 2) + 2)

-- the blocks below a number that are not map blocks, in rising order
unfoldable pub data_blocks : ℕ → ℕ → List ℕ
data_blocks size below = filter (λ block. not (is_map_block size block)) (range_with_len 0 below)

-- the numbers of `count` data blocks, beginning with data block `first`
abbrev pub block_numbers : ℕ → ℕ → ℕ → List ℕ
block_numbers block_size first count = map (nth_block block_size) (range_with_len first count)
