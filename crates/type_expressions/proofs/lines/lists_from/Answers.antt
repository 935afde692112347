use Rattle.std.proofs.Common.{rules, ◌≡◌, ◌≤◌, ◌+◌, ◌-◌, arith, length}
use Rattle.tpi_records.specs.Header.{first_index}
use Rattle.type_expressions.proofs.LinesLaws.{stands_inside}
use Rattle.type_expressions.proofs.lines.lists_from.Goals as goal

pub returns-in-None : goal.returns-in-None
returns-in-None g c = λ t large stands.
    let is : first_index + c.in-Some.position ≡ c.args.to = search rules in
    let past : length c.args.types.now ≤ c.in-Some.position = search rules in
    absurd (omega (arith, past, is, stands_inside c.args.types.now (c.args.to - first_index) t stands))
