use Rattle.std.proofs.Common.{rules, ◌<◌, ◌-◌, ◌^◌, ◌++◌, length}
use Rattle.std.specs.Fmt.{decimal}
use Rattle.output_words.proofs.TakeLaws.{free}
use Rattle.output_words.proofs.bounded.add_number.Goals as goal

pub returns : goal.returns
returns g c =
    let short : length c.push_number.new.text.items < 2 ^ 64 - 1 = search rules in
    free c.push_number.new.text.items (c.args.text.now.items ++ decimal c.args.number) short c.in_ok-push_number.ensures.value
