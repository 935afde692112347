use Rattle.std.proofs.Common.{rules, append_assoc}
use Rattle.output_words.proofs.HexadecimalLaws.{two_digits}
use Rattle.output_words.proofs.hexadecimal.push_u16.Goals as goal

pub returns : goal.returns
returns g c = search (rules, two_digits, append_assoc)
