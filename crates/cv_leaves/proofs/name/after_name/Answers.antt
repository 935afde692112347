use Rattle.std.proofs.Common.{sym}
use Rattle.cv_leaves.proofs.NameLaws.{name_ends}
use Rattle.cv_leaves.proofs.name.after_name.Goals as goal

pub returns-in-Some-clause-inside : goal.returns-in-Some-clause-inside
returns-in-Some-clause-inside c = (name_ends c.args.body.now c.in-Some.name.now c.args.at (sym c.in-Some.ensures.value) c.requires.0).1
