use Rattle.std.proofs.lemmas.Result.{err_from_is_err_and}
use Rattle.byte_io.proofs.AtLaws.{of_more}
use Rattle.file_types.specs.Read.{RecordsWereRead}
use Rattle.file_types.proofs.KnownLaws.{records_known, records_refused_known}
use Rattle.file_types.proofs.RefusedLaws.{bytes_refused}
use Rattle.file_types.proofs.read.read_records_of.Goals as goal

pub returns-in_err-stream-clause-first : goal.returns-in_err-stream-clause-first
returns-in_err-stream-clause-first g c =
    let p = err_from_is_err_and c.from_residual.result c.from_residual.ensures.1 in
    rw (p.1, p.2) (of_more _ _ c.in_err-stream.field-0.0 (λ inner refused. records_refused_known (g.R.ReadAt.bytes c.args.input.now) c.args.layout.now inner c.requires refused) c.in_err-stream.ensures.refused)

pub returns-in-Ok-clause-value : goal.returns-in-Ok-clause-value
returns-in-Ok-clause-value g c = λ file known.
    let layout = c.args.layout.now in
    let has = c.requires file known in
    let read : RecordsWereRead (g.R.ReadAt.bytes c.args.input.now) layout c.in-Ok.records = (c.in_ok-stream.stream.now, c.in_ok-stream.ensures.texts, c.in-Ok.ensures.value) in
    record { layout = layout; has_layout = has; lists = records_known file layout c.in-Ok.records has (rw known at read) }

pub returns-in-Err-clause-refused : goal.returns-in-Err-clause-refused
returns-in-Err-clause-refused g c =
    bytes_refused (g.R.ReadAt.bytes c.args.input.now) c.args.layout.now c.in_ok-stream.stream.now c.in-Err.fault c.from.result c.in_ok-stream.ensures.texts c.from.ensures c.in-Err.ensures.first

pub returns-in-Err-clause-first : goal.returns-in-Err-clause-first
returns-in-Err-clause-first g c =
    records_refused_known (g.R.ReadAt.bytes c.args.input.now) c.args.layout.now c.from.result c.requires (returns-in-Err-clause-refused g c)
