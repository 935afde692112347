use Rattle.std.proofs.Common.{◌≡◌, sym, ◌∙◌, refl, slice_get, Some}
use Rattle.tpi_records.specs.Records.{records_in}
use Rattle.tpi_records.proofs.TableLaws.{is_next, none_left}
use Rattle.tpi_records.proofs.IndexLaws.{is_there}
use Rattle.tpi_records.proofs.index.RecordIndex.get.Goals as goal

pub split_at-requires : goal.split_at-requires
split_at-requires g c =
    let at : slice_get c.self.inside.starts.items c.args.position ≡ Some c.in_ok-start.start = sym (rw c.deref.ensures.value at c.start_at.ensures) ∙ c.in_ok-start.was in
    (is_there c.self.inside.bytes.now c.self.inside.starts.items c.args.position c.in_ok-start.start c.self.invariant at).inside

pub split_first-requires : goal.split_first-requires
split_first-requires g c =
    let at : slice_get c.self.inside.starts.items c.args.position ≡ Some c.in_ok-start.start = sym (rw c.deref.ensures.value at c.start_at.ensures) ∙ c.in_ok-start.was in
    rw c.split_at.ensures.back (is_there c.self.inside.bytes.now c.self.inside.starts.items c.args.position c.in_ok-start.start c.self.invariant at).framed

pub returns-in_err-record-clause-value : goal.returns-in_err-record-clause-value
returns-in_err-record-clause-value g c =
    let at : slice_get c.self.inside.starts.items c.args.position ≡ Some c.in_ok-start.start = sym (rw c.deref.ensures.value at c.start_at.ensures) ∙ c.in_ok-start.was in
    let there = is_there c.self.inside.bytes.now c.self.inside.starts.items c.args.position c.in_ok-start.start c.self.invariant at in
    let none = none_left (records_in c.self.inside.bytes.now) c.args.position (sym (rw c.split_at.ensures.back there.records) ∙ c.in_err-record.ensures.none) in
    rw (← c.self.view_is, none, c.from_residual-in_err-record.ensures) refl

pub returns-clause-value : goal.returns-clause-value
returns-clause-value g c =
    let at : slice_get c.self.inside.starts.items c.args.position ≡ Some c.in_ok-start.start = sym (rw c.deref.ensures.value at c.start_at.ensures) ∙ c.in_ok-start.was in
    let there = is_there c.self.inside.bytes.now c.self.inside.starts.items c.args.position c.in_ok-start.start c.self.invariant at in
    let next = is_next (records_in c.self.inside.bytes.now) c.args.position c.in_ok-record.record.now (records_in c.in_ok-record.field-0-1.now) (sym (rw c.split_at.ensures.back there.records) ∙ c.in_ok-record.ensures.some) in
    rw (← c.self.view_is) (sym next.here)
