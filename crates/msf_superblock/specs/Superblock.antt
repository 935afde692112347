-- The superblock: the first 56 bytes of a container ("The MSF File Format", "The Superblock").
use Rattle.std.specs.Prelude.{ℕ, Some, None, ◌≡◌, ◌<◌, ◌*◌, ◌/◌, ◌%◌, ◌≤◌, ◌⊎◌, ◌==◌, ◌&&◌, ◌||◌, nat_le, nat_eq, List, [], ◌∷◌, ◌++◌, length, take, codes}
use Rattle.std.specs.List.{starts_with}
use Rattle.byte_fields.specs.Number.{number_at}
use Rattle.byte_fields.specs.Check.{Check, first_failing}
use Rattle.byte_io.specs.At.{Bytes, AreGiven}
use Rattle.msf_superblock.specs.BlockNumber.{IsBlockSize, is_block_size, blocks_for, IsOrdinary, is_ordinary}
use Rattle.msf_superblock.specs.declared.fault.MsfFault.{MsfFault}
use Rattle.msf_superblock.specs.declared.fault.MsfFault.TheVariants.{Short, Magic, BlockSize, FreeMapBlock, FileSize, DirectorySize, BlockMapAddr}

-- the 32 bytes with which every container begins
abbrev pub magic : List ℕ
magic = codes "Microsoft C/C++ MSF 7.00" ++ 0x0D ∷ 0x0A ∷ 0x1A ∷ 0x44 ∷ 0x53 ∷ 0 ∷ 0 ∷ 0 ∷ []

-- the fields of a superblock: block_size and directory_bytes are in bytes,
-- free_map_block and block_map_addr are block numbers, num_blocks counts blocks
pub record Fields : Type 0 where
  pub block_size : ℕ
  pub free_map_block : ℕ
  pub num_blocks : ℕ
  pub directory_bytes : ℕ
  pub unknown : ℕ
  pub block_map_addr : ℕ

-- what holds of the fields of a superblock, whatever the length of the file is
pub record IsFit (fields : Fields) : Type 0 where
  pub block_size_fits : IsBlockSize fields.block_size
  pub free_map_block_fits : (fields.free_map_block ≡ 1) ⊎ (fields.free_map_block ≡ 2)
  pub directory_multiple : fields.directory_bytes % 4 ≡ 0
  pub directory_fits : blocks_for fields.block_size fields.directory_bytes ≤ fields.block_size / 4
  pub block_map_fits : IsOrdinary fields.num_blocks fields.block_map_addr

-- the file has all the blocks that the superblock counts
abbrev pub HoldsBlocks : List ℕ → Fields → Type 0
HoldsBlocks file fields = fields.num_blocks * fields.block_size ≤ length file

-- the file begins with a superblock with these fields, and has the blocks that it announces
pub record IsSuperblock (file : List ℕ) (fields : Fields) : Type 0 where
  pub long : 56 ≤ length file
  pub magical : take 32 file ≡ magic
  pub block_size_is : number_at 4 file 32 ≡ fields.block_size
  pub free_map_block_is : number_at 4 file 36 ≡ fields.free_map_block
  pub num_blocks_is : number_at 4 file 40 ≡ fields.num_blocks
  pub directory_bytes_is : number_at 4 file 44 ≡ fields.directory_bytes
  pub unknown_is : number_at 4 file 48 ≡ fields.unknown
  pub block_map_addr_is : number_at 4 file 52 ≡ fields.block_map_addr
  pub whole : HoldsBlocks file fields
  pub fit : IsFit fields

-- the numbers at the offsets of the fields of a superblock
abbrev pub fields_of : List ℕ → Fields
fields_of file = record {
  block_size = number_at 4 file 32;
  free_map_block = number_at 4 file 36;
  num_blocks = number_at 4 file 40;
  directory_bytes = number_at 4 file 44;
  unknown = number_at 4 file 48;
  block_map_addr = number_at 4 file 52;
}

-- the checks of a superblock after that of its length,
-- by the first bytes of a file and how many bytes the file has
unfoldable pub front_checks : List ℕ → ℕ → List (Check MsfFault)
front_checks front have =
    let fields = fields_of front in
    record { holds = starts_with nat_eq front magic; fault = Magic }
    ∷ record { holds = is_block_size fields.block_size; fault = BlockSize fields.block_size }
    ∷ record {
      holds = fields.free_map_block == 1 || fields.free_map_block == 2;
      fault = FreeMapBlock fields.free_map_block;
    }
    ∷ record {
      holds = nat_le (fields.num_blocks * fields.block_size) have;
      fault = FileSize (fields.num_blocks * fields.block_size) have;
    }
    ∷ record {
      holds =
          fields.directory_bytes % 4 == 0
          && nat_le (blocks_for fields.block_size fields.directory_bytes) (fields.block_size / 4);
      fault = DirectorySize fields.directory_bytes;
    }
    ∷ record {
      holds = is_ordinary fields.num_blocks fields.block_map_addr;
      fault = BlockMapAddr fields.block_map_addr;
    }
    ∷ []

-- the checks of a superblock, in the order of its fields: the first is that of its length
unfoldable pub superblock_checks : List ℕ → List (Check MsfFault)
superblock_checks file =
    record { holds = nat_le 56 (length file); fault = Short } ∷ front_checks file (length file)

-- these are the first bytes of a container with this superblock,
-- which is said to have `told` bytes: all checks of its front hold
pub record IsFront (front : List ℕ) (told : ℕ) (fields : Fields) : Type 0 where
  pub count : length front ≡ 56
  pub fields_are : fields ≡ fields_of front
  pub sound : first_failing (front_checks front told) ≡ None

-- reads gave a front with this superblock
abbrev pub HasFront : Bytes → Fields → Type 0
HasFront bytes fields = (front : List ℕ) × AreGiven bytes 0 front × IsFront front bytes.told fields

-- the file is said to be long enough, and reads gave a front whose first check that fails has this
-- fault
pub record HasBadFront (bytes : Bytes) (fault : MsfFault) : Type 0 where
  pub long : 56 ≤ bytes.told
  pub front : List ℕ
  pub given : AreGiven bytes 0 front
  pub count : length front ≡ 56
  pub refused : first_failing (front_checks front bytes.told) ≡ Some fault

-- the front has this fault: the file is said to have too few bytes for a front,
-- or reads gave a front with this fault
abbrev pub FrontRefuses : Bytes → MsfFault → Type 0
FrontRefuses bytes fault = ((bytes.told < 56) × (fault ≡ Short)) ⊎ HasBadFront bytes fault
