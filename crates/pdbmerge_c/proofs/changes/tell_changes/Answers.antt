use Rattle.std.proofs.lemmas.Result.{err_from_is_err_and}
use Rattle.type_changes.proofs.TypeLaws.{tells_changes}
use Rattle.pdbmerge_c.proofs.changes.tell_changes.Goals as goal

pub returns-in_err-pair-clause-found : goal.returns-in_err-pair-clause-found
returns-in_err-pair-clause-found c = λ records others accepted too.
    let p = err_from_is_err_and c.from_residual.result c.from_residual.ensures.1 in
    rw (p.1, p.2) (c.in_err-pair.ensures.found records others accepted too)

pub returns-in-Ok-clause-value : goal.returns-in-Ok-clause-value
returns-in-Ok-clause-value c =
    let records = c.in_ok-pair.pair.first in
    let others = c.in_ok-pair.pair.second in
    let accepted = c.in_ok-pair.ensures.value in
    record {
      records = records;
      others = others;
      accepted = accepted.0;
      too = accepted.1;
      changes = tells_changes records others c.in-Ok.text.items accepted.0.types accepted.1.types c.in-Ok.ensures;
    }
