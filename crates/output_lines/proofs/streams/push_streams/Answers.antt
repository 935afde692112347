use Rattle.std.proofs.Common.{string_bytes}
use Rattle.output_lines.proofs.StreamsLaws.{line_more}
use Rattle.output_lines.proofs.streams.push_streams.Goals as goal

pub loop-s-preserved : goal.loop-s-preserved
loop-s-preserved g c =
    line_more c.args.layout.now.streams c.loop-s.s (string_bytes c.loop-s.text) (string_bytes c.push_stream.new.text) _ (rw c.streams-s-end.ensures.value at c.loop-s-test.true)
    c.loop-s.invariant c.in_ok-push_stream.ensures
