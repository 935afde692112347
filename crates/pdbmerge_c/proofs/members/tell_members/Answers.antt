use Rattle.std.proofs.Common.{inr, refl}
use Rattle.std.proofs.lemmas.Result.{err_from_is_err_and}
use Rattle.msf_blocks.proofs.FoundLaws.{layout_holds}
use Rattle.type_expressions.proofs.AskedLaws.{all_trees}
use Rattle.pdbmerge_c.proofs.members.tell_members.Goals as goal

pub returns-in_err-types-clause-found : goal.returns-in_err-types-clause-found
returns-in_err-types-clause-found c = λ records accepted.
    let p = err_from_is_err_and c.from_residual.result c.from_residual.ensures.1 in
    rw (p.1, p.2) (c.in_err-types.ensures.found records accepted)

pub returns-in-Ok-clause-value : goal.returns-in-Ok-clause-value
returns-in-Ok-clause-value c =
    let records = c.in_ok-types.types in
    let accepted = c.in_ok-types.ensures.value in
    let trees = all_trees records accepted.types in
    record {
      records = records;
      accepted = accepted;
      members = record { trees = trees.0; are_trees = trees.1; tells = c.in-Ok.ensures trees.0 trees.1 };
    }

pub returns-clause-first : goal.returns-clause-first
returns-clause-first c =
    let accepted = c.in_ok-types.ensures.value in
    inr (refl, layout_holds c.args.file.now accepted.has.layout accepted.bytes accepted.has.has_layout)
