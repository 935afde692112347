use Rattle.msf_blocks.proofs.WrittenLaws.{block_pushed}
use Rattle.msf_blocks.proofs.directory.push_blocks.Goals as goal

pub loop-j-preserved : goal.loop-j-preserved
loop-j-preserved g c =
    block_pushed c.args.block_size c.args.first c.loop-j.j c.nth_block.result c.args.bytes.now.items c.loop-j.bytes.items c.push_u32.new.bytes.items c.loop-j.invariant c.nth_block.ensures.value c.in_ok-push_u32.ensures
