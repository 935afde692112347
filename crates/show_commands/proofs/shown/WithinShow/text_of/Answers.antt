use Rattle.std.proofs.Common.{inl}
use Rattle.std.proofs.lemmas.Result.{err_from_is_err_and}
use Rattle.show_commands.proofs.shown.WithinShow.text_of.Goals as goal

pub returns-in_err-check_layout-clause-refused : goal.returns-in_err-check_layout-clause-refused
returns-in_err-check_layout-clause-refused g c =
    let p = err_from_is_err_and c.from_residual.result c.from_residual.ensures.1 in
    let long = c.in_err-check_layout.ensures in
    rw (p.1, p.2) (inl (inl (long.own, long.long)))
