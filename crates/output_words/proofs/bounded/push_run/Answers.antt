use Rattle.std.proofs.Common.{rules, ◌≡◌, ◌∷◌, drop}
use Rattle.output_words.proofs.PlainLaws.{run_pushed}
use Rattle.output_words.proofs.bounded.push_run.Goals as goal

pub returns-clause-value : goal.returns-clause-value
returns-clause-value g c =
    let bytes = c.args.bytes.now in
    let back : drop c.plain_run.result bytes ≡ c.in-Some.byte.now ∷ c.in-Some.rest.now = search rules in
    run_pushed c.args.end c.plain_run.result c.in-Some.byte.now c.args.text.now.items bytes c.split_at.result.0.now c.in-Some.rest.now c.push.new.text.items c.push_quoted_byte.new.text.items c.split_at.ensures.front back c.plain_run.ensures.plain c.in_ok-push.ensures.value c.in_ok-push_quoted_byte.ensures.value
