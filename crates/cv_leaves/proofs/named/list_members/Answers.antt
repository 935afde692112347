use Rattle.std.proofs.Common.{◌∙◌, ◌+◌, ◌∷◌, [], arith, length, map, take}
use Rattle.cv_leaves.specs.declared.leaf.Rest.TheVariants.{Members}
use Rattle.cv_leaves.specs.Checks.{rest_places}
use Rattle.cv_leaves.specs.Part.{part_checks, part_end}
use Rattle.cv_leaves.proofs.PartLaws.{member_held, no_places, member_place}
use Rattle.cv_leaves.proofs.ListLaws.{part_inside, listed_part, listed_all}
use Rattle.cv_leaves.proofs.named.list_members.Goals as goal

pub list_member-requires-clause-inside : goal.list_member-requires-clause-inside
unfolding part_checks
list_member-requires-clause-inside g c =
    let body = c.body_of-body.result.now in
    let at = c.loop-at.at in
    part_inside c.args.record.now body (take c.in-Ok.indices (4 ∷ 8 ∷ [])) Members at c.requires.0 c.body_of-body.ensures.bytes c.in-Ok.ensures.first (c.in-Ok.ensures.places ∙ member_place body at)

pub loop-at-preserved : goal.loop-at-preserved
unfolding part_end
loop-at-preserved g c =
    let r = c.args.record.now in
    let body = c.body_of-body.result.now in
    let stop = length body in
    let at = c.loop-at.at in
    let so_far = c.loop-at.invariant in
    let member = c.in-Ok.ensures in
    record {
      low = omega (arith, member.inside, c.body_of-body.ensures.few, c.requires.1);
      held = rw member.end (so_far.held ∙ member_held body stop at c.loop-at-test.true member.first);
      so_far = rw member.end (listed_part r c.loop-at.list.items c.list_member.new.list.items _ (map (λ k. at + k) (take c.in-Ok.indices (4 ∷ 8 ∷ []))) Members body stop at so_far.so_far c.loop-at-test.true (member.places ∙ member_place body at) c.in_ok-list_member.ensures);
    }

pub returns-clause-listed : goal.returns-clause-listed
unfolding rest_places
returns-clause-listed g c = λ held.
    let body = c.body_of-body.result.now in
    rw (← c.body_of-body.ensures.bytes) (listed_all c.args.record.now c.loop-at.list.items _ _ c.loop-at.invariant.so_far (no_places Members body (length body) c.loop-at.at c.loop-at-test.false))
