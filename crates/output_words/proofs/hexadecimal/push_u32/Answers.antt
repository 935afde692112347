use Rattle.std.proofs.Common.{rules, append_assoc}
use Rattle.output_words.proofs.HexadecimalLaws.{four_digits}
use Rattle.output_words.proofs.hexadecimal.push_u32.Goals as goal

pub returns : goal.returns
returns g c = search (rules, four_digits, append_assoc)
