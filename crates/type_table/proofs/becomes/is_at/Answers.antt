use Rattle.std.proofs.Common.{arith}
use Rattle.type_table.proofs.GuessLaws.{entry_checked}
use Rattle.type_table.proofs.becomes.is_at.Goals as goal

pub becomes-requires-clause-checked : goal.becomes-requires-clause-checked
becomes-requires-clause-checked g c = entry_checked c.args.records.now c.args.position c.get.result.now c.requires.table (omega (arith, c.if-position-len.true, c.len.ensures.value)) c.get.ensures
