use Rattle.msf_superblock.proofs.SizeLaws.{big_enough}
use Rattle.msf_superblock.proofs.BlockLaws.{nth_is_data, data_below, rank_is}
use Rattle.msf_superblock.proofs.block_size.BlockSize.nth_block.Goals as goal

pub returns : goal.returns
returns c =
    let b = c.args.self in
    let j = c.args.j in
    let big = big_enough b c.nth_by_formula.ensures.fits in
    record {
      value = c.nth_by_formula.ensures.value;
      free = rw c.nth_by_formula.ensures.value (nth_is_data b j big);
      below = rw c.nth_by_formula.ensures.value (data_below b j big);
      count = rw c.nth_by_formula.ensures.value (rank_is b j big);
    }
