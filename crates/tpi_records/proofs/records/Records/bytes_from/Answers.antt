use Rattle.std.proofs.Common.{[], refl, sym, ◌∙◌}
use Rattle.tpi_records.specs.Records.{records_in}
use Rattle.tpi_records.proofs.CutLaws.{none_in}
use Rattle.tpi_records.proofs.TableLaws.{is_kept, none_kept, none_framed}
use Rattle.tpi_records.proofs.records.Records.bytes_from.Goals as goal

pub returns-in_default-clause-records : goal.returns-in_default-clause-records
returns-in_default-clause-records g c =
    let records = records_in c.self.inside.bytes.now in
    rw (← c.self.view_is) (none_in [] refl ∙ sym (none_kept records c.self.inside.starts.items c.self.inside.count c.args.position c.self.invariant.counted c.self.invariant.kept (sym (rw c.deref.ensures.value at c.start_at.ensures) ∙ c.in_default.is)))

pub returns-in_default-clause-framed : goal.returns-in_default-clause-framed
returns-in_default-clause-framed g c = none_framed

pub split_at-requires : goal.split_at-requires
split_at-requires g c =
    (is_kept c.self.inside.bytes.now c.self.inside.starts.items c.self.inside.count c.args.position c.in-Some.start c.self.invariant.framed c.self.invariant.kept (sym (rw c.deref.ensures.value at c.start_at.ensures) ∙ c.in-Some.is)).inside

pub skip-requires : goal.skip-requires
skip-requires g c =
    let kept = is_kept c.self.inside.bytes.now c.self.inside.starts.items c.self.inside.count c.args.position c.in-Some.start c.self.invariant.framed c.self.invariant.kept (sym (rw c.deref.ensures.value at c.start_at.ensures) ∙ c.in-Some.is) in
    rw c.split_at.ensures.back kept.framed

pub returns-clause-records : goal.returns-clause-records
returns-clause-records g c =
    let kept = is_kept c.self.inside.bytes.now c.self.inside.starts.items c.self.inside.count c.args.position c.in-Some.start c.self.invariant.framed c.self.invariant.kept (sym (rw c.deref.ensures.value at c.start_at.ensures) ∙ c.in-Some.is) in
    rw (← c.self.view_is) (c.skip.ensures.records ∙ rw c.split_at.ensures.back kept.records)
