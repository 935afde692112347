use Rattle.std.proofs.lemmas.Result.{err_from_is_err_and}
use Rattle.file_types.proofs.RefusedLaws.{records_refused}
use Rattle.file_types.proofs.read.check_types.Goals as goal

pub returns-in_err-records-clause-refused : goal.returns-in_err-records-clause-refused
returns-in_err-records-clause-refused g c =
    let p = err_from_is_err_and c.from_residual.result c.from_residual.ensures.1 in
    rw p.1 (records_refused c.args.stream.now c.in_err-records.field-0.0 p.0 p.2 c.in_err-records.ensures.first)
