-- The stream directory: where its blocks are, and what it lists ("The MSF File Format",
-- "The Stream Directory").
use Rattle.std.specs.Prelude.{ℕ, zero, suc, true, false, Some, None, if◌then◌else◌, ◌==◌, ◌≡◌, ◌⊎◌, ◌+◌, ◌*◌, ◌/◌, ◌%◌, ◌<◌, ◌≤◌, ◌^◌, nat_le, List, [], ◌∷◌, ◌++◌, length, slice_index, get_or, map, All}
use Rattle.std.specs.List.{range_with_len, flat_map, sum_by}
use Rattle.byte_fields.specs.Number.{number_at, four_bytes, nth_u32, u32s}
use Rattle.byte_fields.specs.Check.{Check, Refuses, checks_below, first_failing}
use Rattle.byte_io.specs.At.{Bytes, AreGiven}
use Rattle.msf_superblock.specs.BlockNumber.{blocks_for, IsOrdinary, is_ordinary}
use Rattle.msf_blocks.specs.Blocks.{AreGivenIn}
use Rattle.msf_superblock.specs.Superblock.{HoldsBlocks, Fields}
use Rattle.msf_superblock.specs.declared.fault.MsfFault.{MsfFault}
use Rattle.msf_superblock.specs.declared.fault.MsfFault.TheVariants.{DirectoryBlock, DirectoryShort, StreamBlock, Memory}

-- how many blocks the directory has
abbrev pub directory_blocks : Fields → ℕ
directory_blocks fields = blocks_for fields.block_size fields.directory_bytes

-- the number at a position of the block map: the block of the directory with this position
unfoldable pub map_number : List ℕ → Fields → ℕ → ℕ
map_number file fields k = number_at 4 file (fields.block_map_addr * fields.block_size + 4 * k)

-- the contents of the directory:
-- byte i is in the block whose number is at position i / block_size of the block map
unfoldable pub directory_contents : List ℕ → Fields → List ℕ
directory_contents file fields =
    map (λ i. slice_index file
    (map_number file fields (i / fields.block_size) * fields.block_size + i % fields.block_size))
    (range_with_len 0 fields.directory_bytes)

-- these are the contents of the directory of the file, and its blocks are ordinary
pub record IsDirectory (file : List ℕ) (fields : Fields) (contents : List ℕ) : Type 0 where
  pub ordinary :
      (k : ℕ) → k < directory_blocks fields
      → IsOrdinary fields.num_blocks (map_number file fields k)
  pub contents_is : contents ≡ directory_contents file fields

-- a stream as the directory lists it: its size, which is 0xFFFFFFFF for a nil stream,
-- and the numbers of its blocks
pub record Listed : Type 0 where
  pub size : ℕ
  pub blocks : List ℕ

-- how many bytes a stream of this listed size has; a nil stream has 0
abbrev pub bytes_of : ℕ → ℕ
bytes_of size = if size == 0xFFFFFFFF then 0 else size

-- the stream has as many blocks as its bytes need, and all of them are ordinary
pub record IsListed (fields : Fields) (stream : Listed) : Type 0 where
  pub short : stream.size < 2 ^ 32
  pub count : length stream.blocks ≡ blocks_for fields.block_size (bytes_of stream.size)
  pub ordinary : All (IsOrdinary fields.num_blocks) stream.blocks

-- the directory is the number of streams, then their sizes, then their lists of blocks in turn,
-- then any rest
pub record ListsStreams (fields : Fields) (contents : List ℕ) (streams : List Listed) : Type 0 where
  pub rest : List ℕ
  pub parts :
      contents
      ≡ u32s (length streams ∷ map (λ s. s.size) streams ++ flat_map (λ s. s.blocks) streams)
      ++ rest
  pub each : All (IsListed fields) streams

-- ---- the checks

-- the check of block k of the directory
abbrev pub directory_block_check : List ℕ → Fields → ℕ → List (Check MsfFault)
directory_block_check file fields k =
    record {
      holds = is_ordinary fields.num_blocks (map_number file fields k);
      fault = DirectoryBlock k (map_number file fields k);
    }
    ∷ []

-- the checks of the blocks of the directory, in order
unfoldable pub directory_block_checks : List ℕ → Fields → List (Check MsfFault)
directory_block_checks file fields =
    checks_below (directory_blocks fields) (directory_block_check file fields)

-- how many blocks stream t has, computed from its listed size
unfoldable pub stream_blocks : ℕ → List ℕ → ℕ → ℕ
stream_blocks block_size contents t = blocks_for block_size (bytes_of (nth_u32 contents (1 + t)))

-- the position where the list of stream t begins: after the number of streams, the sizes,
-- and the lists of the streams before it
unfoldable pub list_start : ℕ → List ℕ → ℕ → ℕ
list_start block_size contents zero = 1 + nth_u32 contents 0
list_start block_size contents (suc t) =
    list_start block_size contents t + stream_blocks block_size contents t

-- the checks of the length of the directory: it is long enough for the number of streams,
-- for the sizes, and for the lists
unfoldable pub length_checks : ℕ → List ℕ → List (Check MsfFault)
length_checks block_size contents =
    record { holds = nat_le 4 (length contents); fault = DirectoryShort 4 (length contents) }
    ∷ record {
      holds = nat_le (4 + 4 * nth_u32 contents 0) (length contents);
      fault = DirectoryShort (4 + 4 * nth_u32 contents 0) (length contents);
    }
    ∷ record {
      holds = nat_le (4 * list_start block_size contents (nth_u32 contents 0)) (length contents);
      fault =
          DirectoryShort (4 * list_start block_size contents (nth_u32 contents 0))
          (length contents);
    }
    ∷ []

-- the check of block k of stream t
abbrev pub stream_block_check : Fields → List ℕ → ℕ → ℕ → List (Check MsfFault)
stream_block_check fields contents t k =
    let block = nth_u32 contents (list_start fields.block_size contents t + k) in
    record { holds = is_ordinary fields.num_blocks block; fault = StreamBlock t k block } ∷ []

-- the checks of the blocks of stream t, in order
unfoldable pub stream_checks : Fields → List ℕ → ℕ → List (Check MsfFault)
stream_checks fields contents t =
    checks_below (stream_blocks fields.block_size contents t) (stream_block_check fields contents t)

-- ---- the directory during reading

-- contracts see a directory whose blocks were checked as its superblock and its contents
pub record DirectoryView : Type 0 where
  pub superblock : Fields
  pub contents : List ℕ

-- the blocks of the directory are in the file
pub record IsReadable (file : List ℕ) (fields : Fields) : Type 0 where
  pub whole : HoldsBlocks file fields
  pub blocks : first_failing (directory_block_checks file fields) ≡ None

-- the checks of a directory whose blocks are ordinary:
-- those of its length, and those of the lists of its streams
abbrev pub directory_checks : Fields → List ℕ → List (Check MsfFault)
directory_checks fields contents =
    length_checks fields.block_size contents
    ++ checks_below (nth_u32 contents 0) (stream_checks fields contents)

-- the check of a number of a block map that was read
abbrev pub number_check : List ℕ → Fields → ℕ → List (Check MsfFault)
number_check numbers fields k =
    record {
      holds = is_ordinary fields.num_blocks (get_or numbers k 0);
      fault = DirectoryBlock k (get_or numbers k 0);
    }
    ∷ []

-- the checks of these numbers, in order
unfoldable pub number_checks : List ℕ → Fields → List (Check MsfFault)
number_checks numbers fields = checks_below (directory_blocks fields) (number_check numbers fields)

-- reads gave this number of four bytes, at this offset
abbrev pub IsNumberGiven : Bytes → ℕ → ℕ → Type 0
IsNumberGiven bytes offset n =
    (text : List ℕ) × AreGiven bytes offset text × (length text ≡ 4) × (n ≡ number_at 4 text 0)

-- where the block map begins
abbrev pub map_start : Fields → ℕ
map_start fields = fields.block_map_addr * fields.block_size

-- reads gave these numbers of the block map, from its first number on
abbrev pub AreMapNumbers : Bytes → Fields → List ℕ → Type 0
AreMapNumbers bytes fields numbers =
    (k : ℕ) → k < length numbers
    → IsNumberGiven bytes (map_start fields + 4 * k) (get_or numbers k 0)

-- reads gave this block map: as many numbers as the directory has blocks,
-- and all of them are ordinary
pub record IsBlockMap (bytes : Bytes) (fields : Fields) (numbers : List ℕ) : Type 0 where
  pub count : length numbers ≡ directory_blocks fields
  pub given : AreMapNumbers bytes fields numbers
  pub sound : first_failing (number_checks numbers fields) ≡ None

-- reads gave a block map
abbrev pub HasBlockMap : Bytes → Fields → Type 0
HasBlockMap bytes fields = (numbers : List ℕ) × IsBlockMap bytes fields numbers

-- reads gave the first numbers of the block map; whatever numbers come after them,
-- the block map has this fault
pub record BlockMapRefuses (bytes : Bytes) (fields : Fields) (fault : MsfFault) : Type 0 where
  pub numbers : List ℕ
  pub given : AreMapNumbers bytes fields numbers
  pub few : length numbers ≤ directory_blocks fields
  pub refused :
      (rest : List ℕ)
      → length numbers + length rest ≡ directory_blocks fields
      → first_failing (number_checks (numbers ++ rest) fields) ≡ Some fault

-- how many blocks streams of these listed sizes have together
unfoldable pub blocks_together : ℕ → List ℕ → ℕ
blocks_together block_size sizes = sum_by (λ size. blocks_for block_size (bytes_of size)) sizes

-- reads gave these contents of the directory, in the blocks that the block map lists
pub record HasContents (bytes : Bytes) (fields : Fields) (contents : List ℕ) : Type 0 where
  pub numbers : List ℕ
  pub block_map : IsBlockMap bytes fields numbers
  pub given : AreGivenIn bytes fields.block_size numbers contents
  pub count : length contents ≡ fields.directory_bytes

-- reads gave this byte of the directory, in a block whose number they gave in the block map
abbrev pub IsDirectoryByte : Bytes → Fields → ℕ → ℕ → Type 0
IsDirectoryByte bytes fields i byte =
    (block : ℕ)
    × IsNumberGiven bytes (map_start fields + 4 * (i / fields.block_size)) block
    × (bytes.gives (block * fields.block_size + i % fields.block_size) byte ≡ true)

-- reads gave these bytes of the directory, from this offset in it on
abbrev pub AreDirectoryBytes : Bytes → Fields → ℕ → List ℕ → Type 0
AreDirectoryBytes bytes fields from text =
    (i : ℕ) → i < length text → IsDirectoryByte bytes fields (from + i) (get_or text i 0)

-- reads gave the bytes of this number of the directory, which has this position in it
pub record IsDirectoryNumber (bytes : Bytes) (fields : Fields) (position n : ℕ) : Type 0 where
  pub short : n < 2 ^ 32
  pub given : AreDirectoryBytes bytes fields (4 * position) (four_bytes n)

-- reads gave these numbers of the directory, from this position in it on
abbrev pub AreDirectoryNumbers : Bytes → Fields → ℕ → List ℕ → Type 0
AreDirectoryNumbers bytes fields from numbers =
    (k : ℕ) → k < length numbers → IsDirectoryNumber bytes fields (from + k) (get_or numbers k 0)

-- reads gave a size of this stream, and a stream of this size has `blocks` blocks
abbrev pub HasSize : Bytes → Fields → ℕ → ℕ → Type 0
HasSize bytes fields stream blocks =
    (size : ℕ)
    × IsDirectoryNumber bytes fields (1 + stream) size
    × (blocks ≡ blocks_for fields.block_size (bytes_of size))

-- reads gave sizes of the streams from `from` up to `to`;
-- with these sizes, their lists lie between the positions `start` and `end`
pub record HasSizes (bytes : Bytes) (fields : Fields) (from to start end : ℕ) : Type 0 where
  pub sizes : List ℕ
  pub given : AreDirectoryNumbers bytes fields (1 + from) sizes
  pub many : to ≡ from + length sizes
  pub end_is : end ≡ start + blocks_together fields.block_size sizes

-- reads gave sizes of these streams; with these sizes, the directory has room for their lists
abbrev pub HasRoom : Bytes → Fields → ℕ → ℕ → ℕ → Type 0
HasRoom bytes fields from to start =
    (end : ℕ) × HasSizes bytes fields from to start end × (4 * end ≤ fields.directory_bytes)

-- reads gave sizes of these streams; with these sizes, the directory is too short for their lists
abbrev pub LacksRoom : Bytes → Fields → ℕ → ℕ → ℕ → MsfFault → Type 0
LacksRoom bytes fields from to start fault =
    (end : ℕ)
    × HasSizes bytes fields from to start end
    × (fields.directory_bytes < 4 * end)
    × (fault ≡ DirectoryShort (4 * end) fields.directory_bytes)

-- reads gave numbers of blocks between these positions of the directory,
-- and all of them are ordinary
pub record HasBlocks (bytes : Bytes) (fields : Fields) (start end : ℕ) : Type 0 where
  pub blocks : List ℕ
  pub given : AreDirectoryNumbers bytes fields start blocks
  pub end_is : end ≡ start + length blocks
  pub ordinary : All (IsOrdinary fields.num_blocks) blocks

-- reads gave the first numbers of a list of `count` blocks of this stream;
-- the last of these numbers is not ordinary, and all others are
pub record HasBadBlock (bytes : Bytes) (fields : Fields) (stream start count : ℕ) (fault : MsfFault)
    : Type 0 where
  pub at : ℕ
  pub n : ℕ
  pub before : HasBlocks bytes fields start (start + at)
  pub given : IsDirectoryNumber bytes fields (start + at) n
  pub below : at < count
  pub bad : is_ordinary fields.num_blocks n ≡ false
  pub fault_is : fault ≡ StreamBlock stream at n

-- a list of `count` blocks of this stream has a fault: the directory is too short for it,
-- or a number in it is not ordinary
abbrev pub ListRefuses : Bytes → Fields → ℕ → ℕ → ℕ → MsfFault → Type 0
ListRefuses bytes fields stream start count fault =
    (fields.directory_bytes < 4 * (start + count))
    ⊎ HasBadBlock bytes fields stream start count fault

-- reads gave how many streams there are,
-- and the sizes and the lists of the streams before this one; its own list begins after these
pub record HasLists (bytes : Bytes) (fields : Fields) (streams stream start : ℕ) : Type 0 where
  pub count : IsDirectoryNumber bytes fields 0 streams
  pub sizes : HasSizes bytes fields 0 stream (1 + streams) start
  pub blocks : HasBlocks bytes fields (1 + streams) start

-- reads gave the first bytes of a directory; whatever bytes come after them,
-- the directory has this fault, or it has none and the fault is out of memory
pub record ContentsRefuse (bytes : Bytes) (fields : Fields) (fault : MsfFault) : Type 0 where
  pub text : List ℕ
  pub given : AreDirectoryBytes bytes fields 0 text
  pub few : length text ≤ fields.directory_bytes
  pub refused :
      (rest : List ℕ)
      → length text + length rest ≡ fields.directory_bytes
      → Refuses Memory (first_failing (directory_checks fields (text ++ rest))) fault

-- reads gave a directory with this fault:
-- the block map has it, or reads gave a block map without a fault and contents that have it
abbrev pub DirectoryRefuses : Bytes → Fields → MsfFault → Type 0
DirectoryRefuses bytes fields fault =
    BlockMapRefuses bytes fields fault
    ⊎ (HasBlockMap bytes fields × ContentsRefuse bytes fields fault)

-- stream t, read at the positions of its numbers
unfoldable pub listed_at : ℕ → List ℕ → ℕ → Listed
listed_at block_size contents t = record {
  size = nth_u32 contents (1 + t);
  blocks =
      map (λ k. nth_u32 contents (list_start block_size contents t + k))
      (range_with_len 0 (stream_blocks block_size contents t));
}

-- the first streams, read at the positions of their numbers
abbrev pub listed_below : ℕ → List ℕ → ℕ → List Listed
listed_below block_size contents count =
    map (listed_at block_size contents) (range_with_len 0 count)
