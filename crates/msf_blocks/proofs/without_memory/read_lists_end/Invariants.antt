use Rattle.std.proofs.Common.{◌≡◌, ◌+◌, ◌*◌, ◌≤◌, ◌^◌}
use Rattle.msf_blocks.specs.Directory.{HasSizes}
use Rattle.msf_blocks.specs.Window.{IsWindow}
use Rattle.msf_blocks.proofs.without_memory.read_lists_end.Given as goal

abbrev pub invariant-loop-stream : goal.invariant-loop-stream
invariant-loop-stream g l = record {
  keeps : g.R.ReadAt.bytes l.input ≡ g.R.ReadAt.bytes l.initial.input;
  window : IsWindow (g.R.ReadAt.bytes l.initial.input) l.superblock l.sizes;
  few : l.end ≤ 2 ^ 33 + l.stream * 2 ^ 23;
  sizes : HasSizes (g.R.ReadAt.bytes l.initial.input) l.superblock l.fn.from l.stream l.fn.start l.end;
}
