use Rattle.tpi_records.specs.Records.{records_in}
use Rattle.tpi_records.proofs.TableLaws.{is_next}
use Rattle.std.proofs.Common.{sym, ◌∙◌}
use Rattle.tpi_records.proofs.iter.skip.Goals as goal

pub loop-preserved : goal.loop-preserved
loop-preserved c =
    let so_far = c.loop.invariant in
    let next = is_next (records_in c.args.bytes.now) c.loop.counter c.in-Some.field-0-0.now (records_in c.in-Some.others.now) (sym so_far.records ∙ c.in-Some.ensures.some) in
    record { framed = c.in-Some.ensures.framed; records = sym next.left }
