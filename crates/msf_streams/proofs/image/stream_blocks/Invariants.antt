use Rattle.std.proofs.Common.{◌≡◌, ◌*◌, ◌^◌, ◌≤◌, take}
use Rattle.std.specs.List.{sum_by}
use Rattle.msf_superblock.specs.BlockNumber.{blocks_for}
use Rattle.msf_streams.proofs.image.stream_blocks.Given as goal

abbrev pub invariant-loop-size : goal.invariant-loop-size
invariant-loop-size l = (l.blocks ≡ sum_by (blocks_for l.block_size) (take l.size-index l.sizes)) × (l.blocks ≤ l.size-index * 2 ^ 23)
