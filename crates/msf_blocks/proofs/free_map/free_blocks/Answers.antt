use Rattle.std.proofs.Common.{arith}
use Rattle.msf_blocks.specs.FreeMap.{free_blocks, is_free}
use Rattle.msf_blocks.proofs.CountLaws.{count_whole}
use Rattle.msf_blocks.proofs.free_map.free_blocks.Goals as goal

pub returns : goal.returns
unfolding free_blocks
returns c =
    let superblock = c.args.superblock.now in
    count_whole (is_free c.args.file.now superblock) superblock.num_blocks c.loop-block.block c.loop-block.free c.loop-block.invariant.counted (grind arith)
