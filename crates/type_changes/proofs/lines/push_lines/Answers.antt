use Rattle.std.proofs.Common.{rules, ◌≡◌, ◌∷◌, ◌∙◌, sym}
use Rattle.std.proofs.lemmas.List.{append-nil}
use Rattle.type_changes.proofs.ListLaws.{signed_more}
use Rattle.type_changes.proofs.lines.push_lines.Goals as goal

pub loop-line-init : goal.loop-line-init
loop-line-init g c = search rules

pub loop-line-preserved : goal.loop-line-preserved
loop-line-preserved g c =
    let split : c.loop-line.line-iterator ≡ c.in-Some.line.now ∷ c.next.new.self = c.in-Some.ensures.steps in
    rw (c.in_ok-extend_from_slice-2.ensures.items, c.in_ok-extend_from_slice.ensures.items)
    (signed_more c.args.sign.now c.loop-line.text.items c.in-Some.line.now _ c.next.new.self (rw split at c.loop-line.invariant))

pub returns : goal.returns
returns g c =
    let none = c.in-None.ensures.steps.0 in
    sym (append-nil c.loop-line.text.items) ∙ (rw none at c.loop-line.invariant)
