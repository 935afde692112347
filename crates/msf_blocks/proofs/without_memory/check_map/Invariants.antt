use Rattle.std.proofs.Common.{◌≡◌}
use Rattle.msf_blocks.proofs.RefusedLaws.{HasMapBelow}
use Rattle.msf_blocks.proofs.without_memory.check_map.Given as goal

abbrev pub invariant-loop-at : goal.invariant-loop-at
invariant-loop-at g l = record {
  keeps : g.R.ReadAt.bytes l.input ≡ g.R.ReadAt.bytes l.initial.input;
  map : HasMapBelow (g.R.ReadAt.bytes l.initial.input) l.superblock l.at;
}
