use Rattle.std.proofs.Common.{sym, arith}
use Rattle.cv_leaves.proofs.NumericLaws.{numeric_found, numeric_inside}
use Rattle.cv_leaves.proofs.numeric.end_of_numeric.Goals as goal

pub returns-in-Some-clause-inside : goal.returns-in-Some-clause-inside
returns-in-Some-clause-inside c =
    let found = numeric_found c.args.body.now c.args.at c.in-Some.end (sym c.in-Some.ensures) in
    omega (arith, (numeric_inside c.args.body.now c.args.at found.0).2, found.1)
