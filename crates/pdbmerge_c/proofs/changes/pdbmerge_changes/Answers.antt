use Rattle.std.proofs.Common.{◌∙◌, ap, inl, inr}
use Rattle.pdb_merge.specs.Fault.{merge_number}
use Rattle.pdbmerge_c.proofs.changes.pdbmerge_changes.Goals as goal

pub returns-in-Err-clause-found : goal.returns-in-Err-clause-found
returns-in-Err-clause-found c = λ records others accepted too.
    inr (inl (c.refuse.ensures.number ∙ c.number.ensures ∙ ap merge_number (c.in-Err.ensures.found records others accepted too)))
