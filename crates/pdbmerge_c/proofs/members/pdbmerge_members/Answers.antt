use Rattle.std.proofs.Common.{◌∙◌, ap, inl, inr}
use Rattle.file_types.specs.Fault.{pdb_number}
use Rattle.pdbmerge_c.proofs.members.pdbmerge_members.Goals as goal

pub returns-in-Err-clause-found : goal.returns-in-Err-clause-found
returns-in-Err-clause-found c = λ records accepted.
    inr (inl (c.refuse.ensures.number ∙ c.number.ensures ∙ ap pdb_number (c.in-Err.ensures.found records accepted)))
