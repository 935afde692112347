use Rattle.std.proofs.Common.{rules, ◌<◌, ◌-◌, ◌^◌, ◌++◌, ◌∙◌, length, ap}
use Rattle.std.specs.Prelude.{option_map}
use Rattle.type_expressions.specs.Field.{name_text, own_name}
use Rattle.output_words.proofs.TakeLaws.{free}
use Rattle.type_expressions.proofs.field.add_own_name.Goals as goal

pub returns : goal.returns
unfolding own_name
returns g c =
    let short : length c.push_name.new.text.items < 2 ^ 64 - 1 = search rules in
    free c.push_name.new.text.items (c.args.text.now.items ++ name_text (option_map (λ bytes. bytes.now) c.type_name.result)) short c.in_ok-push_name.ensures.value
    ∙ ap (λ name. c.args.text.now.items ++ name_text name) c.type_name.ensures
