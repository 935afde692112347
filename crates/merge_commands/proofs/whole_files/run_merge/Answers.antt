use Rattle.std.proofs.lemmas.Result.{err_from_is_err_and}
use Rattle.merge_commands.proofs.MergeLaws.{merge_refused}
use Rattle.merge_commands.proofs.whole_files.run_merge.Goals as goal

pub returns-in_err-summary : goal.returns-in_err-summary
returns-in_err-summary g c =
    let p = err_from_is_err_and c.from_residual.result c.from_residual.ensures.1 in
    rw (p.1, p.2) (merge_refused {after = c.merge_to.new.out} g.V.Sink.taken g.V.Sink.is_broken c.args.report.now c.in_err-summary.field-0.0 c.in_err-summary.ensures)
