use Rattle.std.proofs.Common.{rules, ◌≡◌, ◌∷◌, ◌∙◌, true, false, sym}
use Rattle.std.specs.List.{list_any}
use Rattle.std.specs.Str.{bytes_eq}
use Rattle.bstr.specs.Text.{lines_of}
use Rattle.type_changes.proofs.ListLaws.{any_map, lone_more, lone_skips}
use Rattle.type_changes.proofs.lines.push_lone_lines.Goals as goal

pub loop-line-preserved-in-Continue-branch-3 : goal.loop-line-preserved-in-Continue-branch-3
loop-line-preserved-in-Continue-branch-3 g c =
    let line = c.in-Some.line.now in
    let split : c.loop-line.line-iterator ≡ line ∷ c.next.new.self = c.in-Some.ensures.steps in
    let contains : c.contains.result ≡ false = search rules in
    let found : list_any (bytes_eq line) (lines_of c.args.others.now) ≡ false = sym (c.in_ok-known.ensures line) ∙ any_map (λ x. x.bytes.now) (bytes_eq line) c.in_ok-known.known.keys ∙ sym c.contains.ensures ∙ contains in
    rw (c.in_ok-extend_from_slice-2.ensures.items, c.in_ok-extend_from_slice.ensures.items)
    (lone_more c.args.sign.now c.loop-line.text.items line _ c.next.new.self (lines_of c.args.others.now) found (rw split at c.loop-line.invariant))

pub loop-line-preserved : goal.loop-line-preserved
loop-line-preserved g c =
    let line = c.in-Some.line.now in
    let split : c.loop-line.line-iterator ≡ line ∷ c.next.new.self = c.in-Some.ensures.steps in
    let contains : c.contains.result ≡ true = search rules in
    let found : list_any (bytes_eq line) (lines_of c.args.others.now) ≡ true = sym (c.in_ok-known.ensures line) ∙ any_map (λ x. x.bytes.now) (bytes_eq line) c.in_ok-known.known.keys ∙ sym c.contains.ensures ∙ contains in
    lone_skips c.args.sign.now c.loop-line.text.items line _ c.next.new.self (lines_of c.args.others.now) found (rw split at c.loop-line.invariant)
