use Rattle.std.proofs.Common.{◌∙◌, arith}
use Rattle.record_set.proofs.PlaceLaws.{places_each, places_few, interned_more}
use Rattle.record_set.proofs.set.RecordSet.intern_changed.Goals as goal

pub push-requires : goal.push-requires
push-requires g c =
    let few = places_few c.self.inside.records c.self.inside.places c.self.invariant in
    record { few = omega (arith, few, c.requires.short, rw (← c.self.view_is) at c.requires.few) }

pub truncate-requires : goal.truncate-requires
truncate-requires g c = let found = rw c.in-Some.is at c.in_ok-position.ensures.found in record { inside = omega (arith, found.inside) }

pub invariant_of-self-in_default-push : goal.invariant_of-self-in_default-push
invariant_of-self-in_default-push g c =
    let has = c.self.invariant in
    let last = c.if-position-len.true ∙ c.len.ensures ∙ places_each c.self.inside.records c.self.inside.places has in
    rw c.in_default-push.ensures.ok
    (interned_more (g.C.Change.makes c.args.change.now c.args.bytes.now) c.self.inside.records _ c.self.inside.places c.args.places.now c.args.bytes.now c.in-Some.position has (rw c.in-Some.is at c.in_ok-position.ensures.found) (rw c.in-Some.is at c.in_ok-position.ensures.same) last c.requires.listed c.requires.short)
