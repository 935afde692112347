use Rattle.std.proofs.Common.{rules}
use Rattle.std.proofs.lemmas.List.{take_min}
use Rattle.output_words.proofs.TakeLaws.{take_room}
use Rattle.output_words.proofs.bounded.push.Goals as goal

pub returns-clause-value : goal.returns-clause-value
returns-clause-value c = search (rules, take_room, take_min)
