use Rattle.std.proofs.Common.{◌≡◌, ◌+◌, ◌-◌, codes, rules}
use Rattle.std.specs.Fmt.{decimal}
use Rattle.type_expressions.specs.Field.{number_in}
use Rattle.type_expressions.specs.Told.{bit_words}
use Rattle.output_words.proofs.TakeLaws.{four_more}
use Rattle.type_expressions.proofs.told.push_bits.Goals as goal

pub returns-clause-value : goal.returns-clause-value
unfolding bit_words
returns-clause-value g c =
    let body = c.args.body.now in
    let first : c.from-first.result ≡ number_in 1 body 5 = search rules in
    let last : c.saturating_sub.result ≡ number_in 1 body 5 + number_in 1 body 4 - 1 = search rules in
    four_more c.args.end c.args.text.now.items (codes ", bits ") (decimal (number_in 1 body 5)) (codes " to ") (decimal (number_in 1 body 5 + number_in 1 body 4 - 1))
    c.push.new.text.items c.push_number.new.text.items c.push-2.new.text.items c.push_number-2.new.text.items
    c.in_ok-push.ensures.value (rw first at c.in_ok-push_number.ensures.value) c.in_ok-push-2.ensures.value (rw last at c.in_ok-push_number-2.ensures.value)
