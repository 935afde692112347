use Rattle.std.proofs.Common.{◌≡◌, ◌+◌}
use Rattle.msf_blocks.specs.Directory.{HasBlocks}
use Rattle.msf_blocks.specs.Window.{IsWindow}
use Rattle.msf_blocks.proofs.without_memory.check_stream.Given as goal

abbrev pub invariant-loop-at : goal.invariant-loop-at
invariant-loop-at g l = record {
  keeps : g.R.ReadAt.bytes l.input ≡ g.R.ReadAt.bytes l.initial.input;
  window : IsWindow (g.R.ReadAt.bytes l.initial.input) l.superblock l.lists;
  blocks : HasBlocks (g.R.ReadAt.bytes l.initial.input) l.superblock l.fn.start (l.fn.start + l.at);
}
