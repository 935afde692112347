use Rattle.std.proofs.Common.{rules, ◌<◌, ◌-◌, ◌^◌, ◌++◌, length}
use Rattle.type_expressions.specs.Field.{numeric_text}
use Rattle.output_words.proofs.TakeLaws.{free}
use Rattle.type_expressions.proofs.field.add_numeric.Goals as goal

pub returns : goal.returns
returns g c =
    let short : length c.push_numeric.new.text.items < 2 ^ 64 - 1 = search rules in
    free c.push_numeric.new.text.items (c.args.text.now.items ++ numeric_text c.args.body.now c.args.at) short c.in_ok-push_numeric.ensures.value
