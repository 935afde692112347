use Rattle.std.proofs.Common.{◌≡◌, ◌∙◌, Bool, List, ℕ, false, length, replicate, subst, ap, arith, refl, rules}
use Rattle.std.proofs.lemmas.List.{take_all, length-replicate, length-set}
use Rattle.type_difference.specs.Marks.{AreMarks}
use Rattle.type_difference.proofs.DifferenceLaws.{marks_none, marks_more}
use Rattle.type_difference.proofs.marks.mark.Goals as goal

pub loop-number-init : goal.loop-number-init
loop-number-init g c =
    let empty : c.in_ok-marks.marks.items ≡ replicate c.args.end false = search rules in
    record { many = ap length empty ∙ length-replicate {A = Bool} c.args.end false; marked = marks_none c.args.numbers.now c.args.end c.in_ok-marks.marks.items empty }

pub loop-number-preserved : goal.loop-number-preserved
loop-number-preserved g c =
    let so_far = c.loop-number.invariant in
    let k = c.loop-number.number-index in
    record {
      many = simp length-set so_far.many;
      marked = marks_more c.args.numbers.now c.loop-number.marks.items k _ so_far.marked c.loop-number-test.true refl (omega (arith, so_far.many, c.requires k c.loop-number-test.true));
    }

pub returns-clause-value : goal.returns-clause-value
returns-clause-value g c =
    subst (λ (ns : List ℕ). AreMarks ns c.loop-number.marks.items) (take_all c.loop-number.number-index c.args.numbers.now (omega arith)) c.loop-number.invariant.marked
