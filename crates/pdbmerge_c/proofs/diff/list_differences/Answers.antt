use Rattle.std.proofs.lemmas.Result.{err_from_is_err_and}
use Rattle.pdbmerge_c.proofs.DiffLaws.{empty_same}
use Rattle.pdbmerge_c.proofs.diff.list_differences.Goals as goal

pub returns-in_err-pair-clause-found : goal.returns-in_err-pair-clause-found
returns-in_err-pair-clause-found c = λ records others accepted too.
    let p = err_from_is_err_and c.from_residual.result c.from_residual.ensures.1 in
    rw (p.1, p.2) (c.in_err-pair.ensures.found records others accepted too)

pub returns-in-Ok-clause-value : goal.returns-in-Ok-clause-value
returns-in-Ok-clause-value c =
    let records = c.in_ok-pair.pair.first in
    let others = c.in_ok-pair.pair.second in
    let accepted = c.in_ok-pair.ensures.value in
    record {
      records = records;
      others = others;
      accepted = accepted.0;
      too = accepted.1;
      apart = c.in-Ok.ensures;
      empty = empty_same records others c.in-Ok.rows.items accepted.0.types accepted.1.types c.in-Ok.ensures;
    }
