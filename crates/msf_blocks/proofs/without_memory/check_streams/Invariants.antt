use Rattle.std.proofs.Common.{◌≡◌, ◌*◌, ◌≤◌}
use Rattle.msf_blocks.specs.Directory.{HasLists}
use Rattle.msf_blocks.specs.Window.{IsWindow}
use Rattle.msf_blocks.proofs.without_memory.check_streams.Given as goal

abbrev pub invariant-loop-stream : goal.invariant-loop-stream
invariant-loop-stream g l = record {
  keeps : g.R.ReadAt.bytes l.input ≡ g.R.ReadAt.bytes l.initial.input;
  on_sizes : IsWindow (g.R.ReadAt.bytes l.initial.input) l.superblock l.sizes;
  on_lists : IsWindow (g.R.ReadAt.bytes l.initial.input) l.superblock l.lists;
  fits : 4 * l.start ≤ l.superblock.directory_bytes;
  lists : HasLists (g.R.ReadAt.bytes l.initial.input) l.superblock l.fn.streams l.stream l.start;
}
