use Rattle.std.proofs.Common.{◌∙◌, ◌≡◌, ◌+◌, true, sym, arith, length, rules}
use Rattle.std.specs.Prelude.{nat_le}
use Rattle.std.proofs.lemmas.Bool.{leb-true}
use Rattle.cv_leaves.specs.Checks.{body_of, rest_places}
use Rattle.cv_leaves.specs.declared.leaf.Rest.TheVariants.{Indices}
use Rattle.cv_leaves.proofs.PartLaws.{no_places}
use Rattle.cv_leaves.proofs.ListLaws.{body_long, index_fits, index_more, listed_all}
use Rattle.cv_leaves.proofs.named.list_indices.Goals as goal

pub loop-at-preserved : goal.loop-at-preserved
loop-at-preserved g c =
    let r = c.args.record.now in
    let at = c.loop-at.at in
    let stop = c.in-Ok.stop in
    let so_far = c.loop-at.invariant in
    let fits : nat_le (at + 4) (length (body_of r)) ≡ true = sym c.in_ok-list_place.ensures.held ∙ c.if-not-branch.false in
    record {
      low = omega (arith, leb-true (at + 4) (length (body_of r)) fits, body_long r c.requires.0, c.requires.1);
      held = so_far.held ∙ index_fits (body_of r) stop at c.loop-at-test.true fits;
      so_far = index_more r c.loop-at.list.items c.list_place.new.list.items _ (body_of r) stop at so_far.so_far c.loop-at-test.true (search rules);
    }

pub returns-clause-listed : goal.returns-clause-listed
unfolding rest_places
returns-clause-listed g c = λ held.
    let r = c.args.record.now in
    let extent = c.in-Ok.ensures.value in
    let listed = listed_all r c.loop-at.list.items _ _ c.loop-at.invariant.so_far (no_places Indices (body_of r) c.in-Ok.stop c.loop-at.at c.loop-at-test.false) in
    rw (extent.1, extent.2, c.body_of.ensures.bytes) at listed
