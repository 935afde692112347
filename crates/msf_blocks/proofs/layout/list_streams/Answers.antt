use Rattle.std.proofs.Common.{arith}
use Rattle.msf_blocks.proofs.DirectoryLaws.{list_start_upto, list_start_more}
use Rattle.msf_blocks.proofs.LayoutLaws.{stream_is, listed_more}
use Rattle.msf_blocks.specs.declared.layout.Stream.{Stream}
use Rattle.msf_blocks.proofs.layout.list_streams.Goals as goal

pub numbers-requires : goal.numbers-requires
numbers-requires g c =
    let d = c.args.directory.now in
    let upto = list_start_upto d.superblock.block_size d.contents c.loop-stream.stream c.args.streams c.loop-stream-test.true in
    omega (arith, upto.0, c.loop-stream.invariant.0, c.stream_blocks-count.ensures.value, c.requires.room)

pub overflow_add-start-in-loop-stream : goal.overflow_add-start-in-loop-stream
overflow_add-start-in-loop-stream g c =
    let d = c.args.directory.now in
    let upto = list_start_upto d.superblock.block_size d.contents c.loop-stream.stream c.args.streams c.loop-stream-test.true in
    omega (arith, upto.0, c.loop-stream.invariant.0, c.stream_blocks-count.ensures.value, c.requires.room)

pub loop-stream-preserved : goal.loop-stream-preserved
loop-stream-preserved g c =
    let d = c.args.directory.now in
    let t = c.loop-stream.stream in
    let pushed : Stream g.row.A.Denot = record { size = c.size-size.result; blocks = c.in_ok-blocks.blocks } in (
      omega (arith, list_start_more d.superblock.block_size d.contents t, c.loop-stream.invariant.0, c.stream_blocks-count.ensures.value),
      rw c.in_ok-push.ensures.items
          (listed_more d.superblock.block_size d.contents t c.loop-stream.listed.items pushed c.loop-stream.invariant.1
          (stream_is d.superblock.block_size d.contents t c.loop-stream.start c.stream_blocks-count.result pushed c.size-size.ensures c.loop-stream.invariant.0 c.stream_blocks-count.ensures.value c.in_ok-blocks.ensures)),
    )
