use Rattle.std.proofs.Common.{◌∙◌, sym, arith, length}
use Rattle.std.proofs.lemmas.Bool.{eqb-true}
use Rattle.cv_leaves.proofs.PartLaws.{held_here, holds_here}
use Rattle.cv_leaves.proofs.RecordLaws.{no_places_here}
use Rattle.cv_leaves.proofs.place.next_placed.Goals as goal

pub loop-at-preserved : goal.loop-at-preserved
loop-at-preserved c =
    let rest = c.args.rest in
    let x = c.args.body.now in
    let stop = c.args.stop in
    let at = c.loop-at.at in
    let h = c.loop-at.invariant in
    let here = holds_here rest x stop at c.loop-at-test.true h.checked in
    let e = c.in-Ok.ensures.end in
    record {
      low = omega (arith, c.in-Ok.ensures.inside, c.requires.few.1);
      checked = rw e (sym (held_here rest x stop at c.loop-at-test.true here) ∙ h.checked);
      same = rw e (h.same ∙ no_places_here rest x stop at c.in-Ok.part.places.now (eqb-true (length c.in-Ok.part.places.now) 0 (sym c.is_empty.ensures ∙ c.if-not-is_empty.false)) c.loop-at-test.true c.in-Ok.ensures.places);
    }
