use Rattle.std.proofs.Common.{rules, ◌≡◌, ◌∷◌, ◌∙◌, ◌||◌, sym, ap, refl, map}
use Rattle.std.specs.List.{list_any}
use Rattle.std.specs.Str.{bytes_eq}
use Rattle.std.proofs.lemmas.Slice.Eq.{bytes_eq-Decides}
use Rattle.type_changes.specs.declared.lines.Line.{Line}
use Rattle.type_changes.proofs.ListLaws.{map_insert, or_three, or_none}
use Rattle.type_changes.proofs.SameLaws.{found_insert}
use Rattle.type_changes.proofs.lines.lines_in.Goals as goal

pub loop-line-init : goal.loop-line-init
loop-line-init g c = search rules

pub loop-line-preserved : goal.loop-line-preserved
loop-line-preserved g c = λ line.
    let split : c.loop-line.line-iterator ≡ c.in-Some.line.now ∷ c.next.new.self = c.in-Some.ensures.steps in
    let keys = c.loop-line.lines.keys in
    let one : Line = record { bytes = c.in-Some.line } in
    rw c.in_ok-insert.ensures.keys
    (ap (λ b. b || list_any (bytes_eq line) c.next.new.self)
    (ap (list_any (bytes_eq line)) (map_insert (λ x. x.bytes.now) _ bytes_eq (λ x y. refl) keys one) ∙ found_insert bytes_eq bytes_eq-Decides (map (λ x. x.bytes.now) keys) one.bytes.now line)
    ∙ or_three (list_any (bytes_eq line) (map (λ x. x.bytes.now) keys)) (bytes_eq line one.bytes.now) (list_any (bytes_eq line) c.next.new.self)
    ∙ (rw split at (c.loop-line.invariant line)))

pub returns : goal.returns
returns g c = λ line.
    let none = c.in-None.ensures.steps.0 in
    sym (or_none (list_any (bytes_eq line) (map (λ x. x.bytes.now) c.loop-line.lines.keys))) ∙ (rw none at (c.loop-line.invariant line))
