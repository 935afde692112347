use Rattle.std.proofs.Common.{◌≡◌, ◌∙◌, refl, arith}
use Rattle.msf_blocks.proofs.RefusedLaws.{no_sizes, more_sizes}
use Rattle.msf_blocks.proofs.without_memory.read_lists_end.Goals as goal

pub loop-stream-init : goal.loop-stream-init
loop-stream-init g c = record {
  keeps = refl;
  window = c.requires.window;
  few = omega (arith, c.requires.short);
  sizes = no_sizes (g.R.ReadAt.bytes c.args.input.now) c.args.superblock.now c.args.from c.args.start;
}

pub loop-stream-preserved : goal.loop-stream-preserved
loop-stream-preserved g c =
    let i = c.loop-stream.invariant in
    let e = c.in_ok-read_stream_blocks.ensures in
    record {
      keeps = e.reads.keeps ∙ i.keeps;
      window = rw i.keeps at e.window;
      few = omega (arith, i.few, e.few, c.from.ensures);
      sizes = rw c.from.ensures (more_sizes (g.R.ReadAt.bytes c.args.input.now) c.args.superblock.now c.args.from c.loop-stream.stream c.args.start c.loop-stream.end _ i.sizes (rw i.keeps at e.size));
    }

pub returns-clause-sizes : goal.returns-clause-sizes
returns-clause-sizes g c =
    let all : c.loop-stream.stream ≡ c.args.streams = omega (arith, c.loop-stream-test.false, c.loop-stream.auto.stream-end, c.requires.upto) in
    rw all at c.loop-stream.invariant.sizes
