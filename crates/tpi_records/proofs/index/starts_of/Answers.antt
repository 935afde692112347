use Rattle.std.proofs.Common.{◌≡◌, ◌∷◌, ap, arith, length, rules}
use Rattle.tpi_records.specs.Records.{records_in}
use Rattle.tpi_records.proofs.IndexLaws.{all_started, one_started, started_inside}
use Rattle.tpi_records.proofs.index.starts_of.Goals as goal

pub overflow_add-start : goal.overflow_add-start
overflow_add-start g c =
    let split : c.loop-record.record-iterator ≡ c.in-Some.record.now ∷ c.next.new.self = search rules in
    let more = one_started (records_in c.args.bytes.now) c.loop-record.starts.items c.loop-record.start c.loop-record.record-iterator c.in-Some.record.now c.next.new.self c.loop-record.invariant.started split in
    omega (arith, started_inside _ _ _ _ more, ap length c.requires.whole, c.requires.short)

pub loop-record-preserved : goal.loop-record-preserved
loop-record-preserved g c =
    let split : c.loop-record.record-iterator ≡ c.in-Some.record.now ∷ c.next.new.self = search rules in
    let more = one_started (records_in c.args.bytes.now) c.loop-record.starts.items c.loop-record.start c.loop-record.record-iterator c.in-Some.record.now c.next.new.self c.loop-record.invariant.started split in
    record { each = (rw split at c.loop-record.invariant.each).1; started = rw c.in_ok-push.ensures.items more }

pub returns : goal.returns
returns g c = all_started c.args.bytes.now c.loop-record.starts.items c.loop-record.start c.loop-record.record-iterator c.requires c.loop-record.invariant.started (c.in-None.ensures.steps).0
