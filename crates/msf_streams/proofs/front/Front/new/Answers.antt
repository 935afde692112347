use Rattle.std.proofs.Common.{arith}
use Rattle.msf_blocks.proofs.WrittenLaws.{small_number}
use Rattle.msf_streams.proofs.FrontLaws.{superblock_is, block_map_is, directory_is}
use Rattle.msf_streams.proofs.front.Front.new.Goals as goal

pub nth_block-block_map_addr-requires : goal.nth_block-block_map_addr-requires
nth_block-block_map_addr-requires g c = λ is. small_number c.args.block_size 1 is (omega arith)

pub returns : goal.returns
returns g c =
    let b = c.args.block_size in
    let sizes = c.args.sizes.now in
    let five = c.told-sizes in
    let blocks = c.stream_blocks-blocks.ensures.value in
    let directory = c.directory_blocks-directory_blocks.ensures in
    record {
      size = rw c.bytes-block_size.ensures.value at c.bytes-block_size.ensures.fits;
      fits = c.requires.fits;
      count = c.requires.count;
      superblock_is = superblock_is b c.args.num_blocks _ c.directory_len.result c.nth_block-block_map_addr.result sizes _ five c.requires.count blocks c.directory_len.ensures c.nth_block-block_map_addr.ensures.value (rw c.bytes-block_size.ensures.value at c.superblock_bytes-superblock.ensures);
      block_map_is = block_map_is b _ _ sizes _ five blocks directory (rw c.bytes-block_size.ensures.value at c.in_ok-block_map_bytes.ensures);
      directory_is = directory_is b _ _ sizes _ five blocks directory (rw c.bytes-block_size.ensures.value at c.in_ok-directory_bytes.ensures);
    }
