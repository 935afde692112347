use Rattle.std.proofs.Common.{map}
use Rattle.type_expressions.proofs.TellLaws.{on_ok}
use Rattle.type_changes.specs.Seen.{seen}
use Rattle.type_changes.proofs.ChangeLaws.{both_shown}
use Rattle.type_changes.proofs.changes.push_between.Goals as goal

pub returns : goal.returns
returns g c =
    let gone = map seen c.args.gone.now in
    let come = map seen c.args.come.now in
    let first = c.in_ok-push_gone.ensures come c.in_ok-gone_soles.ensures c.in_ok-come_soles.ensures in
    on_ok _ _ c.push_come.result (λ second. both_shown gone come c.args.text.now.items c.push_gone.new.text.items c.push_come.new.text.items first second) (c.push_come.ensures gone c.in_ok-gone_soles.ensures c.in_ok-come_soles.ensures)
