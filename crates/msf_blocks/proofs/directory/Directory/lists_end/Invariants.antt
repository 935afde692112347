use Rattle.std.proofs.Common.{◌≡◌, ◌+◌, ◌*◌, ◌≤◌, ◌^◌}
use Rattle.msf_blocks.specs.Directory.{list_start}
use Rattle.msf_blocks.proofs.directory.Directory.lists_end.Given as goal

abbrev pub invariant-loop-stream : goal.invariant-loop-stream
invariant-loop-stream l = (l.end ≡ list_start l.self.superblock.block_size l.self.contents l.stream) × (l.end ≤ 2 ^ 33 + l.stream * 2 ^ 23)
