use Rattle.std.proofs.Common.{◌≡◌, ◌+◌, ◌∷◌, drop, length, true, rules}
use Rattle.std.specs.Prelude.{nat_le}
use Rattle.std.proofs.lemmas.List.{drop_more, drop_all}
use Rattle.cv_leaves.specs.Checks.{body_of}
use Rattle.cv_leaves.proofs.ListLaws.{fixed_more, listed_more, listed_all}
use Rattle.cv_leaves.proofs.named.list_fixed.Goals as goal

pub loop-place-preserved : goal.loop-place-preserved
loop-place-preserved g c =
    let i = c.loop-place.place-index in
    let ps = c.args.places.now in
    let r = c.args.record.now in
    let so_far = c.loop-place.invariant in
    let split : drop i ps ≡ c.from.result ∷ drop (i + 1) ps = rw c.from.ensures (drop_more ps i 0 c.loop-place-test.true) in
    let fits : nat_le (c.from.result + 4) (length (body_of r)) ≡ true = search rules in
    record {
      held = fixed_more (body_of r) ps (drop i ps) (drop (i + 1) ps) c.from.result so_far.held split fits;
      so_far = listed_more r c.loop-place.list.items c.list_place.new.list.items (drop i ps) (drop (i + 1) ps) _ c.from.result so_far.so_far split (search rules);
    }

pub returns-clause-listed : goal.returns-clause-listed
returns-clause-listed g c = λ held.
    let i = c.loop-place.place-index in
    listed_all c.args.record.now c.loop-place.list.items (drop i c.args.places.now) _ c.loop-place.invariant.so_far (drop_all i c.args.places.now (search (rules, c.loop-place-test.false)))
