use Rattle.std.proofs.Common.{arith}
use Rattle.msf_superblock.proofs.SizeLaws.{listed_short}
use Rattle.msf_blocks.proofs.without_memory.read_stream_blocks.Goals as goal

pub overflow_add-stream : goal.overflow_add-stream
overflow_add-stream g c =
    let b = c.block_size-block_size in
    omega (arith, listed_short b.result c.args.superblock.now.directory_bytes b.ensures.fits b.ensures.listed, c.requires.there)
