use Rattle.std.proofs.Common.{◌∙◌, ◌+◌, ◌∷◌, [], arith, length}
use Rattle.cv_leaves.specs.declared.leaf.Rest.TheVariants.{Methods}
use Rattle.cv_leaves.specs.Checks.{rest_places}
use Rattle.cv_leaves.proofs.PartLaws.{held_here, no_places, entry_place}
use Rattle.cv_leaves.proofs.ListLaws.{part_inside, listed_one, listed_all}
use Rattle.cv_leaves.proofs.named.list_methods.Goals as goal

pub push_named-requires-clause-inside : goal.push_named-requires-clause-inside
push_named-requires-clause-inside g c =
    let body = c.body_of-body.result.now in
    let at = c.loop-at.at in
    (part_inside c.args.record.now body (4 ∷ []) Methods at c.requires.0 c.body_of-body.ensures.bytes c.in-Ok.ensures.first (entry_place body at)).0

pub loop-at-preserved : goal.loop-at-preserved
loop-at-preserved g c =
    let r = c.args.record.now in
    let body = c.body_of-body.result.now in
    let stop = length body in
    let at = c.loop-at.at in
    let so_far = c.loop-at.invariant in
    let entry = c.in-Ok.ensures in
    record {
      low = omega (arith, entry.inside, c.body_of-body.ensures.few, c.requires.1);
      held = rw entry.end (so_far.held ∙ held_here Methods body stop at c.loop-at-test.true entry.first);
      so_far = rw entry.end (listed_one r c.loop-at.list.items c.push_named.new.list.items _ (at + 4) Methods body stop at so_far.so_far c.loop-at-test.true (entry_place body at) c.in_ok-push_named.ensures);
    }

pub returns-clause-listed : goal.returns-clause-listed
unfolding rest_places
returns-clause-listed g c = λ held.
    let body = c.body_of-body.result.now in
    rw (← c.body_of-body.ensures.bytes) (listed_all c.args.record.now c.loop-at.list.items _ _ c.loop-at.invariant.so_far (no_places Methods body (length body) c.loop-at.at c.loop-at-test.false))
