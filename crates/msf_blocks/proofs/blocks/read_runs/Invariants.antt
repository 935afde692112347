use Rattle.std.proofs.Common.{◌≡◌, ◌≤◌, ◌-◌, ◌*◌, min, length, take}
use Rattle.msf_blocks.specs.Blocks.{AreGivenIn}
use Rattle.msf_blocks.proofs.blocks.read_runs.Given as goal

abbrev pub invariant-loop-position : goal.invariant-loop-position
invariant-loop-position g l = record {
  keeps : g.R.ReadAt.bytes l.input ≡ g.R.ReadAt.bytes l.initial.input;
  upto : l.position ≤ length l.blocks;
  len : length l.buffer ≡ l.size;
  given : AreGivenIn (g.R.ReadAt.bytes l.initial.input) l.block_size l.blocks (take (min (l.position * l.block_size) l.size) l.buffer);
}

abbrev pub decreases-loop-position : goal.decreases-loop-position
decreases-loop-position g l = length l.blocks - l.position
