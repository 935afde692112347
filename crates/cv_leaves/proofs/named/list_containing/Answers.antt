use Rattle.std.proofs.Common.{◌∙◌, ◌≡◌, true, false, sym, arith}
use Rattle.byte_fields.specs.Number.{number_at}
use Rattle.cv_leaves.specs.Attributes.{points_to_member}
use Rattle.cv_leaves.specs.Checks.{body_of}
use Rattle.cv_leaves.proofs.ListLaws.{body_long, listed_single, listed_none}
use Rattle.cv_leaves.proofs.PartLaws.{places_containing, no_containing}
use Rattle.cv_leaves.proofs.named.list_containing.Goals as goal

pub push_named-requires-clause-inside : goal.push_named-requires-clause-inside
push_named-requires-clause-inside g c =
    let inside = rw (c.in-Ok-true.field-0-test, c.body_of.ensures.bytes) at c.in-Ok-true.ensures.inside in
    omega (arith, inside, body_long c.args.record.now c.requires.0)

pub returns-in_ok-push_named-in-Ok-true-clause-listed : goal.returns-in_ok-push_named-in-Ok-true-clause-listed
returns-in_ok-push_named-in-Ok-true-clause-listed g c = λ held.
    let r = c.args.record.now in
    let points : points_to_member (number_at 4 (body_of r) 4) ≡ true = rw c.body_of.ensures.bytes at (sym c.in-Ok-true.ensures.value ∙ c.in-Ok-true.field-0-test) in
    listed_single r c.args.list.now.items c.push_named.new.list.items _ 8 (sym (places_containing (body_of r) points)) c.in_ok-push_named-in-Ok-true.ensures

pub returns-in-Ok-false-clause-listed : goal.returns-in-Ok-false-clause-listed
returns-in-Ok-false-clause-listed g c = λ held.
    let r = c.args.record.now in
    let points : points_to_member (number_at 4 (body_of r) 4) ≡ false = rw c.body_of.ensures.bytes at (sym c.in-Ok-false.ensures.value ∙ c.in-Ok-false.field-0-test) in
    listed_none r c.args.list.now.items _ (no_containing (body_of r) points)
