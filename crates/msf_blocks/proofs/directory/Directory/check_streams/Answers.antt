use Rattle.std.proofs.Common.{arith}
use Rattle.std.proofs.lemmas.Result.{err_from_is_err_and}
use Rattle.msf_blocks.specs.Directory.{stream_checks}
use Rattle.byte_fields.proofs.CheckLaws.{checks_below-more, checks_below-stop}
use Rattle.msf_blocks.proofs.DirectoryLaws.{list_start_upto, list_start_first, list_start_more}
use Rattle.msf_blocks.proofs.directory.Directory.check_streams.Goals as goal

pub overflow_add-start : goal.overflow_add-start
overflow_add-start c =
    let self = c.args.self.now in
    omega (arith, list_start_first self.superblock.block_size self.contents c.args.streams, c.requires.streams, c.requires.room)

pub stream_blocks-count-requires : goal.stream_blocks-count-requires
stream_blocks-count-requires c =
    let self = c.args.self.now in
    omega (arith, list_start_first self.superblock.block_size self.contents c.args.streams, c.requires.streams, c.requires.room, c.loop-stream-test.true)

pub check_stream-requires-clause-room : goal.check_stream-requires-clause-room
check_stream-requires-clause-room c =
    let self = c.args.self.now in
    let upto = list_start_upto self.superblock.block_size self.contents c.loop-stream.stream c.args.streams c.loop-stream-test.true in
    omega (arith, upto.0, c.loop-stream.invariant.0, c.stream_blocks-count.ensures.value, c.requires.room)

pub overflow_add-start-in-loop-stream : goal.overflow_add-start-in-loop-stream
overflow_add-start-in-loop-stream c =
    let self = c.args.self.now in
    let upto = list_start_upto self.superblock.block_size self.contents c.loop-stream.stream c.args.streams c.loop-stream-test.true in
    omega (arith, upto.0, c.loop-stream.invariant.0, c.stream_blocks-count.ensures.value, c.requires.room)

pub returns-in_err-check_stream : goal.returns-in_err-check_stream
returns-in_err-check_stream c =
    let self = c.args.self.now in
    let p = err_from_is_err_and c.from_residual.result c.from_residual.ensures.1 in
    rw (p.1, p.2)
    (checks_below-stop (stream_checks self.superblock self.contents) c.loop-stream.stream c.args.streams _ c.loop-stream.invariant.1
    c.in_err-check_stream.ensures c.loop-stream-test.true)

pub loop-stream-preserved : goal.loop-stream-preserved
loop-stream-preserved c =
    let self = c.args.self.now in (
      omega (arith, list_start_more self.superblock.block_size self.contents c.loop-stream.stream, c.loop-stream.invariant.0, c.stream_blocks-count.ensures.value),
      checks_below-more (stream_checks self.superblock self.contents) c.loop-stream.stream c.loop-stream.invariant.1 c.in_ok-check_stream.ensures,
    )
