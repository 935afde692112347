use Rattle.std.proofs.Common.{arith}
use Rattle.show_commands.proofs.ShownLaws.{opened_fault}
use Rattle.show_commands.proofs.shown.Within.text_of_opened.Goals as goal

pub returns-clause-first : goal.returns-clause-first
returns-clause-first g c =
    opened_fault c.args.self.now.command c.args.self.now.limit (g.R.ReadAt.bytes c.args.input.now) c.text_at.result (omega (arith, c.if-from-len.false, c.len.ensures.told, c.from.ensures)) c.text_at.ensures.first
