use Rattle.std.proofs.Common.{arith, ap, ◌+◌}
use Rattle.byte_fields.specs.Number.{nth_u32}
use Rattle.byte_fields.proofs.CheckLaws.{checks_below-more, checks_below-stop, check_fails, check_holds}
use Rattle.msf_superblock.specs.BlockNumber.{is_ordinary}
use Rattle.msf_blocks.specs.Directory.{stream_checks, stream_block_check, stream_blocks, list_start}
use Rattle.msf_superblock.specs.declared.fault.MsfFault.TheVariants.{StreamBlock}
use Rattle.msf_blocks.proofs.directory.Directory.check_stream.Goals as goal

pub returns-then-not-is_ordinary : goal.returns-then-not-is_ordinary
unfolding stream_checks
returns-then-not-is_ordinary c =
    let fields = c.args.self.now.superblock in
    let contents = c.args.self.now.contents in
    let stream = c.args.stream in
    let at = c.loop-at.at in
    checks_below-stop (stream_block_check fields contents stream) at (stream_blocks fields.block_size contents stream) (StreamBlock stream at c.number-n.result) c.loop-at.invariant
    (check_fails (is_ordinary fields.num_blocks (nth_u32 contents (list_start fields.block_size contents stream + at))) _ _ (grind arith) (ap (StreamBlock stream at) (grind arith)))
    (omega (arith, c.requires.count, c.loop-at-test.true))

pub loop-at-preserved : goal.loop-at-preserved
unfolding stream_checks
loop-at-preserved c =
    let fields = c.args.self.now.superblock in
    let contents = c.args.self.now.contents in
    let at = c.loop-at.at in
    checks_below-more (stream_block_check fields contents c.args.stream) at c.loop-at.invariant
    (check_holds (is_ordinary fields.num_blocks (nth_u32 contents (list_start fields.block_size contents c.args.stream + at))) _ (grind arith))
