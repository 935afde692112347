use Rattle.std.proofs.Common.{◌≡◌, ◌++◌}
use Rattle.byte_fields.specs.Number.{u32s}
use Rattle.msf_superblock.specs.BlockNumber.{block_numbers}
use Rattle.msf_blocks.proofs.directory.push_blocks.Given as goal

abbrev pub invariant-loop-j : goal.invariant-loop-j
invariant-loop-j g l = l.bytes.items ≡ l.initial.bytes.items ++ u32s (block_numbers l.block_size l.first l.j)
