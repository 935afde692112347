use Rattle.std.proofs.Common.{◌≡◌, ◌∷◌, arith, ap, length, rules, string_bytes}
use Rattle.output_lines.proofs.RecordsLaws.{lines_more, each_left, lines_whole}
use Rattle.output_lines.proofs.records.record_lines.Goals as goal

pub loop-bytes-preserved : goal.loop-bytes-preserved
loop-bytes-preserved g c =
    let so_far = c.loop-bytes.invariant in
    let split : c.loop-bytes.bytes-iterator ≡ c.in-Some.bytes.now ∷ c.next.new.self = search rules in
    record {
      shown = lines_more (string_bytes c.loop-bytes.text) (string_bytes c.push_record.new.text) c.loop-bytes.index c.in-Some.bytes.now c.loop-bytes.bytes-iterator c.next.new.self _
          so_far.shown split c.in_ok-push_record.ensures;
      each = each_left c.loop-bytes.bytes-iterator c.next.new.self c.in-Some.bytes.now split so_far.each;
      few = omega (arith, so_far.few, ap length split);
    }

pub returns : goal.returns
returns g c = lines_whole _ c.loop-bytes.index c.loop-bytes.bytes-iterator _ c.loop-bytes.invariant.shown (c.in-None.ensures.steps).0
