use Rattle.std.proofs.Common.{string_bytes}
use Rattle.output_lines.proofs.DifferenceLaws.{both_shown}
use Rattle.output_lines.proofs.difference.push_difference.Goals as goal

pub returns : goal.returns
returns g c =
    both_shown c.args.scope c.args.first.now c.args.second.now c.deref.result.now c.deref-2.result.now (string_bytes c.args.text.now) (string_bytes c.push_shown.new.text) (string_bytes c.push_shown-2.new.text)
    (rw c.deref.ensures.value c.requires.first) (rw c.deref-2.ensures.value c.requires.second) c.in_ok-push_shown.ensures c.in_ok-push_shown-2.ensures
