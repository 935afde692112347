use Rattle.std.proofs.lemmas.Result.{err_from_is_err_and}
use Rattle.pdbmerge_c.proofs.check.count_types.Goals as goal

pub returns-in_err-types-clause-found : goal.returns-in_err-types-clause-found
returns-in_err-types-clause-found c = λ records accepted.
    let p = err_from_is_err_and c.from_residual.result c.from_residual.ensures.1 in
    rw (p.1, p.2) (c.in_err-types.ensures.found records accepted)
