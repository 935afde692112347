use Rattle.std.proofs.Common.{string_bytes, sym, ◌∙◌}
use Rattle.std.specs.List.{slice_get}
use Rattle.output_lines.proofs.StreamsLaws.{blocks_more}
use Rattle.output_lines.proofs.streams.push_blocks.Goals as goal

pub loop-k-preserved : goal.loop-k-preserved
loop-k-preserved g c =
    blocks_more (string_bytes c.loop-k.text) (string_bytes c.push_number.new.text) (string_bytes c.args.text.now) (slice_get c.args.layout.now.streams c.args.s) c.loop-k.k c.in-Some.block
    (sym c.block.ensures.value ∙ c.in-Some.is) c.loop-k.invariant (rw c.from.ensures at c.in_ok-push_number.ensures)
