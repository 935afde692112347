use Rattle.std.proofs.Common.{arith}
use Rattle.output_words.proofs.TakeLaws.{take_whole}
use Rattle.type_expressions.proofs.field.first_bytes.Goals as goal

pub returns-in-None : goal.returns-in-None
returns-in-None c = take_whole 400 c.args.bytes.now (omega (arith, c.in-None.ensures.cases))
