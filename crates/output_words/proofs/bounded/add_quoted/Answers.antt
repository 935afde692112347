use Rattle.std.proofs.Common.{rules, ◌<◌, ◌-◌, ◌^◌, ◌++◌, length}
use Rattle.output_words.specs.Text.{quoted}
use Rattle.output_words.proofs.TakeLaws.{free}
use Rattle.output_words.proofs.bounded.add_quoted.Goals as goal

pub returns : goal.returns
returns g c =
    let short : length c.push_quoted.new.text.items < 2 ^ 64 - 1 = search rules in
    free c.push_quoted.new.text.items (c.args.text.now.items ++ quoted c.args.name.now) short c.in_ok-push_quoted.ensures.value
