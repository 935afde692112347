use Rattle.std.proofs.Common.{◌∙◌, ap}
use Rattle.pdbmerge_c.specs.Pair.{input_fault}
use Rattle.pdbmerge_c.proofs.pair.types_of.Goals as goal

pub returns-in-Err-clause-found : goal.returns-in-Err-clause-found
returns-in-Err-clause-found c = λ records accepted. c.input_fault.ensures ∙ ap (input_fault c.args.input) (c.in-Err.ensures.found records accepted)
