use Rattle.std.proofs.lemmas.Result.{err_from_is_err_and}
use Rattle.pdbmerge_c.proofs.pair.Pair.read.Goals as goal

pub returns-in_err-ours-clause-found : goal.returns-in_err-ours-clause-found
returns-in_err-ours-clause-found c = λ records others accepted too.
    let p = err_from_is_err_and c.from_residual.result c.from_residual.ensures.1 in
    rw (p.1, p.2) (c.in_err-ours.ensures.found records accepted)

pub returns-in_err-theirs-clause-found : goal.returns-in_err-theirs-clause-found
returns-in_err-theirs-clause-found c = λ records others accepted too.
    let p = err_from_is_err_and c.from_residual-in_err-theirs.result c.from_residual-in_err-theirs.ensures.1 in
    rw (p.1, p.2) (c.in_err-theirs.ensures.found others too)
