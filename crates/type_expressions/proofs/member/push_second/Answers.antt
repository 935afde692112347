use Rattle.std.proofs.Common.{rules, ◌≡◌, arith}
use Rattle.std.specs.Prelude.{Some, None, if◌then◌else◌}
use Rattle.cv_leaves.specs.Numeric.{has_numeric, numeric_end}
use Rattle.cv_leaves.proofs.NumericLaws.{numeric_found, numeric_inside}
use Rattle.type_expressions.proofs.member.push_second.Goals as goal

pub add_numeric-requires : goal.add_numeric-requires
add_numeric-requires g c =
    let m = c.args.member.now in
    let some : (if has_numeric m 12 then Some (numeric_end m 12) else None) ≡ Some c.in-Some.next = search rules in
    let found = numeric_found m 12 c.in-Some.next some in
    let inside = numeric_inside m 12 found.0 in
    (omega (arith, c.requires, found.1, inside.2), omega (arith, c.requires))
