use Rattle.std.proofs.Common.{◌∙◌, arith}
use Rattle.msf_blocks.proofs.FreeLaws.{part_bit}
use Rattle.msf_blocks.proofs.free_map.free_bit.Goals as goal

pub returns-clause-value : goal.returns-clause-value
returns-clause-value c =
    let size = c.block_size-block_size.ensures in
    let bit = rw (size.value, c.map_block_of-number.ensures) at c.is_set.ensures in
    bit ∙ part_bit c.args.file.now c.args.superblock.now c.args.n c.requires (rw size.value at size.fits) (grind arith)
