use Rattle.std.proofs.Common.{◌≡◌, ◌∷◌, arith, ap, length, rules, string_bytes}
use Rattle.output_lines.proofs.RecordsLaws.{each_left}
use Rattle.show_commands.proofs.TypesLaws.{types_more, types_whole, checked_more}
use Rattle.show_commands.proofs.types.type_lines.Goals as goal

pub loop-bytes-preserved : goal.loop-bytes-preserved
loop-bytes-preserved g c =
    let so_far = c.loop-bytes.invariant in
    let split : c.loop-bytes.bytes-iterator ≡ c.in-Some.bytes.now ∷ c.next.new.self = search rules in
    let added = c.in_ok-push_type.ensures.value in
    record {
      shown = types_more c.args.records.now (string_bytes c.loop-bytes.text) (string_bytes c.push_type.new.text) c.loop-bytes.index c.in-Some.bytes.now c.loop-bytes.bytes-iterator c.next.new.self
          so_far.shown split added;
      checked = checked_more c.args.records.now c.loop-bytes.index c.in-Some.bytes.now c.loop-bytes.bytes-iterator c.next.new.self so_far.checked split (added.0, added.1);
      each = each_left c.loop-bytes.bytes-iterator c.next.new.self c.in-Some.bytes.now split so_far.each;
      few = omega (arith, so_far.few, ap length split);
    }

pub returns-clause-value : goal.returns-clause-value
returns-clause-value g c = types_whole c.args.records.now _ c.loop-bytes.index c.loop-bytes.bytes-iterator c.loop-bytes.invariant.shown (c.in-None.ensures.steps).0
