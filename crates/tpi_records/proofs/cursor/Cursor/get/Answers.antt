use Rattle.std.proofs.Common.{sym, ◌∙◌}
use Rattle.tpi_records.specs.Records.{records_in}
use Rattle.tpi_records.proofs.TableLaws.{is_next}
use Rattle.tpi_records.proofs.cursor.Cursor.get.Goals as goal

pub invariant_of-self : goal.invariant_of-self
invariant_of-self g c =
    let ok = c.in_ok-record.ensures in
    let next = is_next c.self.inside.records.now c.args.position c.in_ok-record.record.now (records_in c.in_ok-record.others.now) (sym c.bytes_at-left.ensures.records ∙ ok.some) in
    (ok.framed, sym next.left)

pub returns-clause-value : goal.returns-clause-value
returns-clause-value g c =
    let next = is_next c.self.inside.records.now c.args.position c.in_ok-record.record.now (records_in c.in_ok-record.others.now) (sym c.bytes_at-left.ensures.records ∙ c.in_ok-record.ensures.some) in
    rw (← c.self.view_is) (sym next.here)
