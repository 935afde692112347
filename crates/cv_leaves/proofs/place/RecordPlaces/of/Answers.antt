use Rattle.std.proofs.Common.{◌≡◌, ◌∙◌, ap, arith, Some}
use Rattle.cv_leaves.specs.Leaf.{leaf_seen, leaf_of}
use Rattle.cv_leaves.specs.Checks.{kind_of}
use Rattle.cv_leaves.proofs.RecordLaws.{extent_held, parts_held, places_are}
use Rattle.cv_leaves.proofs.place.RecordPlaces.of.Goals as goal

pub unreachable-requires-in_default-extent : goal.unreachable-requires-in_default-extent
unreachable-requires-in_default-extent c =
    let r = c.args.record.now in
    let row : Some (leaf_seen c.in-Some.leaf) ≡ leaf_of (kind_of r) = c.in-Some.ensures ∙ ap leaf_of c.kind_of.ensures in
    let held = extent_held r (leaf_seen c.in-Some.leaf) c.requires.checked row in
    let fails = rw c.body_of-body.ensures.bytes at c.in_default-extent.ensures.first in
    cc

pub invariant_of-result : goal.invariant_of-result
invariant_of-result c =
    let r = c.args.record.now in
    let row : Some (leaf_seen c.in-Some.leaf) ≡ leaf_of (kind_of r) = c.in-Some.ensures ∙ ap leaf_of c.kind_of.ensures in
    let held = parts_held r (leaf_seen c.in-Some.leaf) c.requires.checked row in
    let e = c.in-Ok.ensures.value in
    record {
      short = omega (arith, c.body_of-body.ensures.few);
      base_near = omega arith;
      next_near = omega (arith, e.0);
      checked = rw (e.1, e.2, c.body_of-body.ensures.bytes) held;
    }

pub returns : goal.returns
returns c =
    let r = c.args.record.now in
    let row : Some (leaf_seen c.in-Some.leaf) ≡ leaf_of (kind_of r) = c.in-Some.ensures ∙ ap leaf_of c.kind_of.ensures in
    let e = c.in-Ok.ensures.value in
    rw (e.1, e.2, c.body_of-body.ensures.bytes) (places_are r (leaf_seen c.in-Some.leaf) row)
