use Rattle.std.proofs.Common.{◌≡◌, ◌∷◌, ◌∙◌, ◌+◌, ◌<◌, ◌≤◌, length, ap, arith, sym, rules}
use Rattle.byte_fields.specs.Check.{first_failing}
use Rattle.checked_types.specs.Check.{reference_checks}
use Rattle.type_trees.proofs.WalkLaws.{own_fit, each_other}
use Rattle.checked_types.proofs.CheckLaws.{own_references, reference_fails, reference_held}
use Rattle.type_trees.proofs.DepthLaws.{above_all, above_whole}
use Rattle.checked_types.proofs.DeepLaws.{deep_more, if_some}
use Rattle.checked_types.proofs.check.check_references.Goals as goal
use Rattle.tpi_records.specs.Header.{first_index}

pub loop-place-init : goal.loop-place-init
loop-place-init c =
    let r = c.args.bytes.now in
    let left : c.into_iter-place-iterator.result ≡ c.places-place-items.result = search rules in
    let own = own_fit r c.places-place-items.result c.places-place-items.ensures in
    record {
      rest = ap (λ ps. first_failing (reference_checks c.args.many c.args.position r ps)) (left ∙ own.0);
      fit = rw left own.1;
      depth = record {
        lower = λ each. own_references r c.into_iter-place-iterator.result (λ to. to < first_index + c.args.position) (left ∙ own.0) each;
        deep = above_all r _ _ (left ∙ own.0);
        low = λ bound below. omega arith;
      };
    }

pub loop-place-preserved : goal.loop-place-preserved
loop-place-preserved c =
    let r = c.args.bytes.now in
    let so_far = c.loop-place.invariant in
    let left = c.loop-place.place-iterator in
    let others = c.next.new.self in
    let split : left ≡ c.in-Some.place ∷ others = search rules in
    let below : c.ref_at-to.result < first_index + c.args.many = omega (arith, c.if-to-end.false) in
    let within : c.min.result ≤ c.args.position = omega (arith, c.min.ensures) in
    record {
      rest = sym (reference_held c.args.many c.args.position r c.in-Some.place left others split (rw c.ref_at-to.ensures at below)) ∙ so_far.rest;
      fit = (each_other (λ p. p + 8 ≤ length r) c.in-Some.place left others split so_far.fit).1;
      depth = deep_more c.args.position _ c.args.depths.now r left others c.in-Some.place c.loop-place.depth c.deepest-depth.result split (omega (arith, within)) so_far.depth (rw c.ref_at-to.ensures at c.deepest-depth.ensures.some);
    }

pub returns-then-to-end : goal.returns-then-to-end
returns-then-to-end c =
    let split : c.loop-place.place-iterator ≡ c.in-Some.place ∷ c.next.new.self = search rules in
    record {
      first = sym c.loop-place.invariant.rest ∙ rw c.ref_at-to.ensures
          (reference_fails c.args.many c.args.position c.args.bytes.now c.in-Some.place c.loop-place.place-iterator c.next.new.self split (rw c.ref_at-to.ensures at c.if-to-end.true));
      lower = tt;
      depth = tt;
      bound = tt;
    }

pub returns-clause-lower : goal.returns-clause-lower
returns-clause-lower c = if_some c.loop-place.depth (λ d is. is.lower (rw (c.in-None.ensures.steps).0 tt)) c.loop-place.invariant.depth

pub returns-clause-depth : goal.returns-clause-depth
returns-clause-depth c = if_some c.loop-place.depth (λ d is. above_whole c.args.bytes.now _ d _ c.loop-place.place-iterator is.deep (c.in-None.ensures.steps).0) c.loop-place.invariant.depth

pub returns-clause-bound : goal.returns-clause-bound
returns-clause-bound c = if_some c.loop-place.depth (λ d is. is.low) c.loop-place.invariant.depth
