-- Windows on a directory that is read by position.
use Rattle.std.specs.Prelude.{ℕ, ◌+◌, ◌*◌, ◌/◌, ◌%◌, ◌<◌, ◌≤◌, List, length, take}
use Rattle.byte_io.specs.At.{Bytes, AreGiven}
use Rattle.msf_blocks.specs.Directory.{IsNumberGiven, map_start}
use Rattle.msf_superblock.specs.Superblock.{Fields}
use Rattle.msf_superblock.specs.BlockNumber.{IsBlockSize}
use Rattle.msf_blocks.specs.declared.window.Window.{Window}

-- reads gave this part of the directory, from `start` on, in a block that the block map lists
pub record IsPart (bytes : Bytes) (fields : Fields) (start : ℕ) (part : List ℕ) : Type 0 where
  pub size : IsBlockSize fields.block_size
  -- the part lies in one block
  pub inside : start % fields.block_size + length part ≤ fields.block_size
  pub block : ℕ
  pub listed : IsNumberGiven bytes (map_start fields + 4 * (start / fields.block_size)) block
  pub given : AreGiven bytes (block * fields.block_size + start % fields.block_size) part

-- the bytes of a window that were read
abbrev pub shown : Window → List ℕ
shown window = take (4 * window.count) window.bytes

-- a window shows a part of the directory, or nothing
pub record IsWindow (bytes : Bytes) (fields : Fields) (window : Window) : Type 0 where
  pub short : window.count ≤ 510
  pub part : 0 < window.count → IsPart bytes fields (4 * window.first) (shown window)

-- the number at this position of the directory is in the window
pub record Shows (window : Window) (position : ℕ) : Type 0 where
  pub from : window.first ≤ position
  pub upto : position < window.first + window.count
