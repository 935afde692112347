use Rattle.std.proofs.Common.{rules, ◌≡◌, ◌∷◌, ◌++◌, length}
use Rattle.std.specs.List.{flat_map}
use Rattle.output_words.specs.Text.{quoted_byte}
use Rattle.output_words.proofs.PlainLaws.{none_left}
use Rattle.output_words.proofs.TakeLaws.{quoted_whole}
use Rattle.output_words.proofs.bounded.push_quoted.Goals as goal

pub returns-clause-value : goal.returns-clause-value
returns-clause-value g c =
    let empty : length c.runs.rest.now ≡ 0 = search rules in
    let old = c.args.text.now.items in
    let name = c.args.name.now in
    let whole = none_left c.args.end c.runs.text.items c.runs.rest.now (old ++ (34 ∷ flat_map quoted_byte name)) c.runs.invariant.short empty c.runs.invariant.left in
    quoted_whole c.args.end old name c.runs.text.items c.push-2.new.text.items whole c.in_ok-push-2.ensures.value
