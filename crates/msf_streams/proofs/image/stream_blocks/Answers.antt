use Rattle.std.proofs.Common.{◌≡◌, get_or, arith}
use Rattle.std.proofs.lemmas.List.Sums.{sum_by_more}
use Rattle.msf_superblock.specs.BlockNumber.{blocks_for}
use Rattle.msf_streams.proofs.image.stream_blocks.Goals as goal

pub loop-size-preserved : goal.loop-size-preserved
loop-size-preserved c =
    let b = c.args.block_size in
    let sizes = c.args.sizes.now in
    let i = c.loop-size.size-index in
    let size = get_or sizes i 0 in
    let is : c.blocks_for-blocks.result ≡ blocks_for b size = c.blocks_for-blocks.ensures.value in
    let few = c.blocks_for-blocks.ensures.few in
    (omega (arith, is, c.loop-size.invariant.0, sum_by_more (blocks_for b) sizes i 0 (omega (arith, c.told-sizes))), omega (arith, few, c.loop-size.invariant.1))
