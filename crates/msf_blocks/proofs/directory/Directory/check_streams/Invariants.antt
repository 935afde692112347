use Rattle.std.proofs.Common.{◌≡◌, None}
use Rattle.byte_fields.specs.Check.{first_failing, checks_below}
use Rattle.msf_blocks.specs.Directory.{stream_checks, list_start}
use Rattle.msf_blocks.proofs.directory.Directory.check_streams.Given as goal

abbrev pub invariant-loop-stream : goal.invariant-loop-stream
invariant-loop-stream l =
    (l.start ≡ list_start l.self.superblock.block_size l.self.contents l.stream)
    × (first_failing (checks_below l.stream (stream_checks l.self.superblock l.self.contents)) ≡ None)
