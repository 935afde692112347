use Rattle.std.proofs.Common.{◌≡◌, None}
use Rattle.byte_fields.specs.Check.{first_failing, checks_below}
use Rattle.msf_blocks.specs.Directory.{stream_block_check}
use Rattle.msf_blocks.proofs.directory.Directory.check_stream.Given as goal

abbrev pub invariant-loop-at : goal.invariant-loop-at
invariant-loop-at l = first_failing (checks_below l.at (stream_block_check l.self.superblock l.self.contents l.fn.stream)) ≡ None
