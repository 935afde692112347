-- The layout of a container: its superblock, and its streams as the directory lists them.
use Rattle.std.specs.Prelude.{ℕ, ◌≡◌, ◌-◌, ◌⊎◌, ◌<◌, ◌^◌, ◌++◌, List, Option, Some, None, length, slice_get, All}
use Rattle.byte_fields.specs.Number.{nth_u32}
use Rattle.byte_fields.specs.Check.{Check, Refuses, checks_below, first_failing}
use Rattle.byte_io.specs.At.{Bytes}
use Rattle.msf_superblock.specs.BlockNumber.{IsBlockSize}
use Rattle.msf_superblock.specs.Superblock.{Fields, IsSuperblock, HasFront, FrontRefuses, fields_of, superblock_checks}
use Rattle.msf_blocks.specs.Directory.{Listed, bytes_of, IsListed, IsDirectory, ListsStreams, HasContents, DirectoryRefuses, directory_contents, directory_block_checks, length_checks, stream_checks}
use Rattle.msf_superblock.specs.declared.fault.MsfFault.{MsfFault}
use Rattle.msf_superblock.specs.declared.fault.MsfFault.TheVariants.{Memory}
use Rattle.byte_io.specs.declared.limited.Limited.{Limited}
use Rattle.byte_io.specs.declared.limited.Limited.TheVariants as within

-- contracts see a layout as the values of the superblock and the list of streams
pub record LayoutView : Type 0 where
  pub superblock : Fields
  pub streams : List Listed

-- the file has this layout: it begins with the superblock, and its directory lists the streams
pub record HasLayout (file : List ℕ) (layout : LayoutView) : Type 0 where
  pub superblock : IsSuperblock file layout.superblock
  pub contents : List ℕ
  pub directory : IsDirectory file layout.superblock contents
  pub lists : ListsStreams layout.superblock contents layout.streams

-- reads gave the bytes of this layout: the front, the block map and the contents of the directory,
-- each where the one before it says; all checks of them hold
pub record HasTexts (bytes : Bytes) (layout : LayoutView) : Type 0 where
  pub front : HasFront bytes layout.superblock
  pub contents : List ℕ
  pub directory : HasContents bytes layout.superblock contents
  pub lists : ListsStreams layout.superblock contents layout.streams

-- reads gave bytes of a container with this fault: the front has it,
-- or reads gave a front without a fault and a directory that has it;
-- if there is no fault, it is out of memory
abbrev pub TextsRefuse : Bytes → MsfFault → Type 0
TextsRefuse bytes fault =
    FrontRefuses bytes fault
    ⊎ ((fields : Fields) × HasFront bytes fields × DirectoryRefuses bytes fields fault)

-- what holds of every layout
pub record IsLayout (layout : LayoutView) : Type 0 where
  pub size : IsBlockSize layout.superblock.block_size
  pub few : length layout.streams < 2 ^ 32
  pub each : All (IsListed layout.superblock) layout.streams

-- the block at a position of the list of a stream, if there is one
abbrev pub block_in : Option Listed → ℕ → Option ℕ
block_in None k = None
block_in (Some stream) k = slice_get stream.blocks k

-- the block at position k of the list of stream s, if there is one
abbrev pub block_of : List Listed → ℕ → ℕ → Option ℕ
block_of streams s k = block_in (slice_get streams s) k

-- the checks of a layout: of the superblock, of the blocks of the directory, of its length,
-- and of the blocks of each stream
unfoldable pub layout_checks : List ℕ → List (Check MsfFault)
layout_checks file =
    let fields = fields_of file in
    let contents = directory_contents file fields in
    superblock_checks file
    ++ (directory_block_checks file fields
    ++ (length_checks fields.block_size contents
    ++ checks_below (nth_u32 contents 0) (stream_checks fields contents)))

-- ---- with a limit on the directory

-- the superblock is sound, and says that the directory has more bytes than the limit; the greatest
-- number of four bytes is no limit
pub record HasLongDirectory (limit : ℕ) (file : List ℕ) : Type 0 where
  pub limited : limit < 2 ^ 32 - 1
  pub superblock : Fields
  pub is_superblock : IsSuperblock file superblock
  pub long : limit < superblock.directory_bytes

-- reads gave a sound front that says so
abbrev pub GivesLongDirectory : ℕ → Bytes → Type 0
GivesLongDirectory limit bytes =
    (limit < 2 ^ 32 - 1)
    × ((fields : Fields) × HasFront bytes fields × (limit < fields.directory_bytes))

-- this is the first fault of the file: after the superblock comes the length of the directory
abbrev pub HasWithinFault : ℕ → List ℕ → Limited MsfFault → Type 0
HasWithinFault limit file within.TooLong = HasLongDirectory limit file
HasWithinFault limit file (within.Of fault) =
    (HasLongDirectory limit file → ⊥) × Refuses Memory (first_failing (layout_checks file)) fault

-- what reads gave has this fault
abbrev pub TextsRefuseWithin : ℕ → Bytes → Limited MsfFault → Type 0
TextsRefuseWithin limit bytes within.TooLong = GivesLongDirectory limit bytes
TextsRefuseWithin limit bytes (within.Of fault) = TextsRefuse bytes fault

-- ---- a stream that is held against a limit

-- the layout lists more bytes than the limit for the stream at this position; the greatest number
-- of
-- four bytes is no limit
pub record ListsLongStream (limit s : ℕ) (layout : LayoutView) : Type 0 where
  pub limited : limit < 2 ^ 32 - 1
  pub stream : Listed
  pub is_stream : slice_get layout.streams s ≡ Some stream
  pub long : limit < bytes_of stream.size
