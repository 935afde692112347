use Rattle.std.proofs.Common.{◌≡◌, ◌%◌, rules, arith, false}
use Rattle.std.proofs.lemmas.Fmt.{hex_one_digit, hex_two_digits}
use Rattle.output_words.proofs.hexadecimal.push_u8.Goals as goal

pub returns-then-number-lt16 : goal.returns-then-number-lt16
returns-then-number-lt16 g c =
    let one = hex_one_digit false c.args.number c.if-number-lt16.true in
    let last : c.args.number % 16 ≡ c.args.number = omega (arith, c.if-number-lt16.true) in
    rw one (search (rules, last))

pub returns : goal.returns
returns g c = search (rules, hex_two_digits)
