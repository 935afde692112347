use Rattle.std.proofs.Common.{◌≡◌, ◌∙◌, arith}
use Rattle.msf_blocks.proofs.FreeLaws.{free_known, next_held, one_free, one_used}
use Rattle.msf_blocks.proofs.free_map.free_blocks_at.Goals as goal
use Rattle.msf_blocks.proofs.free_map.free_blocks_at.Goals.{then-branch, else-branch}

pub loop-block-preserved : goal.loop-block-preserved
loop-block-preserved g c =
    let so_far = c.loop-block.invariant in
    let free = c.in_ok-is_free_at.ensures in
    let superblock = c.args.superblock.now in
    let block = c.loop-block.block in
    record {
      keeps = free.reads.keeps ∙ so_far.keeps;
      room = free.room;
      listed = λ _. free.listed;
      held = next_held (g.R.ReadAt.bytes c.args.input.now) c.is_free_at.new.map_block superblock block free.listed (rw so_far.keeps at free.given);
      marks = elim c.if-branch.branch [
        | then-branch w ↦ rw w.free-is (one_free (g.R.ReadAt.bytes c.args.input.now) superblock block c.loop-block.free c.in_ok-is_free_at.field-0 so_far.marks (rw so_far.keeps at free.mark) w.if-branch.true)
        | else-branch w ↦ rw w.free-is (one_used (g.R.ReadAt.bytes c.args.input.now) superblock block c.loop-block.free c.in_ok-is_free_at.field-0 so_far.marks (rw so_far.keeps at free.mark) w.if-branch.false)
      ];
      few = elim c.if-branch.branch [
        | then-branch w ↦ omega (arith, w.free-is, so_far.few)
        | else-branch w ↦ omega (arith, w.free-is, so_far.few)
      ];
    }

pub returns-clause-value : goal.returns-clause-value
returns-clause-value g c = λ file known.
    let fields = c.args.superblock.now in
    let end : c.loop-block.block ≡ fields.num_blocks = grind arith in
    free_known file fields c.loop-block.free (c.requires.whole file known) (λ some. c.loop-block.invariant.listed (omega (arith, some, end))) (rw (known, end) at c.loop-block.invariant.marks)
