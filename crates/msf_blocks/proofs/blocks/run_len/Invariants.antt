use Rattle.std.proofs.Common.{◌≤◌, ◌+◌, length}
use Rattle.msf_blocks.proofs.BlocksLaws.{IsRun}
use Rattle.msf_blocks.proofs.blocks.run_len.Given as goal

abbrev pub invariant-loop-k : goal.invariant-loop-k
invariant-loop-k l = (l.position + l.k ≤ length l.blocks) × IsRun l.blocks l.position l.k
