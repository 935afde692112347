use Rattle.std.proofs.Common.{◌≡◌, ◌<◌, ◌≤◌, length}
use Rattle.msf_superblock.specs.BlockNumber.{IsBlockSize}
use Rattle.msf_blocks.specs.FreeMap.{IsFreeCount, IsMapHeld}
use Rattle.msf_blocks.proofs.free_map.free_blocks_at.Given as goal

abbrev pub invariant-loop-block : goal.invariant-loop-block
invariant-loop-block g l = record {
  keeps : g.R.ReadAt.bytes l.input ≡ g.R.ReadAt.bytes l.initial.input;
  room : length l.map_block ≡ l.superblock.block_size;
  listed : 0 < l.block → IsBlockSize l.superblock.block_size;
  held : IsMapHeld (g.R.ReadAt.bytes l.initial.input) l.superblock l.block l.map_block;
  marks : IsFreeCount (g.R.ReadAt.bytes l.initial.input) l.superblock l.block l.free;
  few : l.free ≤ l.block;
}
