use Rattle.std.proofs.Common.{◌≡◌, ◌∙◌, ◌+◌, arith}
use Rattle.msf_blocks.proofs.RefusedLaws.{more_blocks}
use Rattle.msf_blocks.proofs.without_memory.check_stream.Goals as goal

pub loop-at-preserved : goal.loop-at-preserved
loop-at-preserved g c =
    let i = c.loop-at.invariant in
    record {
      keeps = c.in-Some.ensures.reads.keeps ∙ i.keeps;
      window = rw i.keeps at c.in-Some.ensures.window;
      blocks =
          let next : c.args.start + c.loop-at.at + 1 ≡ c.args.start + (c.loop-at.at + 1) = omega arith in
          rw next at (more_blocks (g.R.ReadAt.bytes c.args.input.now) c.args.superblock.now c.args.start (c.args.start + c.loop-at.at) c.in-Some.n i.blocks (rw i.keeps at c.in-Some.ensures.given) (grind arith));
    }
