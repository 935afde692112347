use Rattle.std.proofs.Common.{rules, inr}
use Rattle.pdb_merge.proofs.InputLaws.{add_named, refused_last}
use Rattle.pdb_merge.proofs.input.refuse.Goals as goal

pub returns-in-Ok-clause-first : goal.returns-in-Ok-clause-first
returns-in-Ok-clause-first g c = refused_last (g.I.Inputs.known c.args.inputs.now) c.args.input c.in-Of.fault c.at_file.result c.in-Ok.ensures.value c.at_file.ensures

pub returns-in-Ok-clause-named : goal.returns-in-Ok-clause-named
returns-in-Ok-clause-named g c = add_named c.args.input c.in-Of.fault c.at_file.result (search rules) c.at_file.ensures

pub returns-in-Err-clause-own : goal.returns-in-Err-clause-own
returns-in-Err-clause-own g c = λ files given. inr (c.in-Err.ensures.found files given)

pub returns-in-Err-clause-first : goal.returns-in-Err-clause-first
returns-in-Err-clause-first g c = (c.in-Err.ensures.refuses 0).reads

pub returns-in-Err-clause-named : goal.returns-in-Err-clause-named
returns-in-Err-clause-named g c = (c.in-Err.ensures.refuses 0).named
