use Rattle.std.proofs.Common.{arith}
use Rattle.cv_leaves.proofs.ListLaws.{ok_more, member_none, member_one, member_two}
use Rattle.cv_leaves.proofs.named.list_member.Goals as goal

pub returns-in-0 : goal.returns-in-0
returns-in-0 g c = member_none c.args.record.now c.args.list.now.items c.args.at c.args.indices c.in-0.is

pub returns-in-1 : goal.returns-in-1
returns-in-1 g c =
    ok_more _ _ c.push_named.result (member_one c.args.record.now c.args.list.now.items c.push_named.new.list.items c.args.at c.args.indices c.in-1.is) c.push_named.ensures

pub returns-in_ok-push_named-in_default : goal.returns-in_ok-push_named-in_default
returns-in_ok-push_named-in_default g c =
    let last = c.push_named-in_default-2 in
    ok_more _ _ last.result
    (member_two c.args.record.now c.args.list.now.items c.push_named-in_default.new.list.items last.new.list.items c.args.at c.args.indices (omega (arith, c.in_default, c.requires.few)) c.in_ok-push_named-in_default.ensures)
    last.ensures
