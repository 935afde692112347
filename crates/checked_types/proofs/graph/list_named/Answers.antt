use Rattle.std.proofs.Common.{◌≡◌, ◌≤◌, ◌+◌, ◌<◌, ◌∷◌, [], ◌∙◌, arith, length, rules, inl, inr}
use Rattle.std.proofs.lemmas.Bool.{cases_lt}
use Rattle.cv_leaves.specs.References.{reference_at}
use Rattle.type_trees.proofs.WalkLaws.{own_fit, each_other}
use Rattle.checked_types.proofs.GraphLaws.{named_all, named_simple, named_more, named_whole}
use Rattle.checked_types.proofs.graph.list_named.Goals as goal
use Rattle.tpi_records.specs.Header.{first_index}

pub loop-place-init : goal.loop-place-init
loop-place-init g c =
    let r = c.args.bytes.now in
    let left : c.into_iter-place-iterator.result ≡ c.places-place-items.result = search rules in
    let own = own_fit r c.places-place-items.result c.places-place-items.ensures in
    record { rest = rw c.clear.ensures.items (named_all r c.into_iter-place-iterator.result [] (left ∙ own.0)); fit = rw left own.1 }

pub returns : goal.returns
returns g c = named_whole c.args.bytes.now c.loop-place.place-iterator c.loop-place.named.items _ c.loop-place.invariant.rest (c.in-None.ensures.steps).0

pub loop-place-preserved-in-Continue-1 : goal.loop-place-preserved-in-Continue-1
loop-place-preserved-in-Continue-1 g c =
    let r = c.args.bytes.now in
    let so_far = c.loop-place.invariant in
    let left = c.loop-place.place-iterator in
    let split : left ≡ c.in-Some.place ∷ c.next.new.self = search rules in
    let position = c.in-Some-checked_sub.ensures in
    let large : first_index ≤ reference_at r c.in-Some.place = omega (arith, c.ref_at.ensures, position) in
    record {
      rest = rw c.in_ok-push.ensures.items (named_more r c.in-Some.place c.in-Some-checked_sub.position left c.next.new.self c.loop-place.named.items _ so_far.rest split large (omega (arith, position, c.ref_at.ensures)));
      fit = (each_other (λ p. p + 8 ≤ length r) c.in-Some.place left c.next.new.self split so_far.fit).1;
    }

pub loop-place-preserved : goal.loop-place-preserved
loop-place-preserved g c =
    let r = c.args.bytes.now in
    let so_far = c.loop-place.invariant in
    let left = c.loop-place.place-iterator in
    let split : left ≡ c.in-Some.place ∷ c.next.new.self = search rules in
    let small : reference_at r c.in-Some.place < first_index = elim (cases_lt (reference_at r c.in-Some.place) first_index) [ inl low ↦ low | inr high ↦ absurd (c.in_default.ensures (omega (arith, high, c.ref_at.ensures))) ] in
    record {
      rest = named_simple r c.in-Some.place left c.next.new.self c.loop-place.named.items _ so_far.rest split small;
      fit = (each_other (λ p. p + 8 ≤ length r) c.in-Some.place left c.next.new.self split so_far.fit).1;
    }
