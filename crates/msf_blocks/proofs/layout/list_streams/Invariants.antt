use Rattle.std.proofs.Common.{◌≡◌, map}
use Rattle.msf_blocks.specs.Directory.{list_start, listed_below}
use Rattle.msf_blocks.specs.Stream.{listed_of}
use Rattle.msf_blocks.proofs.layout.list_streams.Given as goal

abbrev pub invariant-loop-stream : goal.invariant-loop-stream
invariant-loop-stream g l =
    (l.start ≡ list_start l.directory.superblock.block_size l.directory.contents l.stream)
    × (map listed_of l.listed.items ≡ listed_below l.directory.superblock.block_size l.directory.contents l.stream)
