use Rattle.std.proofs.Common.{rules, ◌≡◌, ◌∷◌, codes}
use Rattle.cv_leaves.specs.FieldList.{members_of, IsWholeMember}
use Rattle.type_trees.proofs.WalkLaws.{each_other}
use Rattle.type_expressions.specs.Expression.{branch_text}
use Rattle.type_expressions.specs.Member.{member_kind}
use Rattle.type_expressions.proofs.LinesLaws.{own_starts, own_links, own_tells, own_ends, type_told}
use Rattle.type_expressions.proofs.lines.push_own.Goals as goal

pub loop-member-init : goal.loop-member-init
loop-member-init g c =
    let all : c.into_iter-member-iterator.result ≡ members_of c.args.list.now = search rules in
    record {
      whole = search rules;
      told = λ bs branches. rw all (own_starts c.args.types.now c.args.list.now bs c.args.text.now.items c.requires.checked);
    }

pub loop-member-preserved-then-u16_in-eq-LF_INDEX : goal.loop-member-preserved-then-u16_in-eq-LF_INDEX
loop-member-preserved-then-u16_in-eq-LF_INDEX g c =
    let m = c.in-Some.member.now in
    let others = c.next.new.self in
    let split : c.loop-member.member-iterator ≡ m ∷ others = c.in-Some.ensures.steps in
    let each = each_other IsWholeMember m c.loop-member.member-iterator others split c.loop-member.invariant.whole in
    let kind : member_kind m ≡ 0x1404 = search rules in
    record {
      whole = each.1;
      told = λ bs branches.
          let so_far = rw split at (c.loop-member.invariant.told bs branches) in
          rw c.u32_in.ensures (own_links c.args.types.now c.args.list.now bs m others c.args.text.now.items c.loop-member.text.items c.loop-member.next branches each.0 kind so_far);
    }

pub loop-member-preserved : goal.loop-member-preserved
loop-member-preserved g c =
    let m = c.in-Some.member.now in
    let others = c.next.new.self in
    let split : c.loop-member.member-iterator ≡ m ∷ others = c.in-Some.ensures.steps in
    let each = each_other IsWholeMember m c.loop-member.member-iterator others split c.loop-member.invariant.whole in
    let other : member_kind m ≡ 0x1404 → ⊥ = search rules in
    record {
      whole = each.1;
      told = λ bs branches.
          let so_far = rw split at (c.loop-member.invariant.told bs branches) in
          let words = branch_text (codes "no type") 8 bs so_far.at in
          let line = c.in_ok-push_line.ensures.value words (type_told c.args.types.now c.args.list.now bs m others c.args.text.now.items c.loop-member.text.items c.loop-member.next branches each.0 so_far) in
          own_tells c.args.types.now c.args.list.now bs m others c.args.text.now.items c.loop-member.text.items c.push_line.new.text.items c.loop-member.next other so_far line;
    }

pub returns : goal.returns
returns g c = record {
  value = λ bs branches.
      let none = c.in-None.ensures.steps.0 in
      own_ends c.args.types.now c.args.list.now bs c.args.text.now.items c.loop-member.text.items c.loop-member.next (rw none at (c.loop-member.invariant.told bs branches));
}
