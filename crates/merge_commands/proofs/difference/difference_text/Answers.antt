use Rattle.std.proofs.Common.{◌≡◌, ◌∙◌, sym, string_bytes, rules}
use Rattle.std.proofs.lemmas.Result.{err_from_is_err_and}
use Rattle.merge_commands.proofs.DifferenceLaws.{shows_inputs, both_read, one_accepted_before, refuses_inside, of_reading}
use Rattle.merge_commands.proofs.difference.difference_text.Goals as goal

pub returns-in_err-second-clause-own : goal.returns-in_err-second-clause-own
returns-in_err-second-clause-own g c =
    let known = g.I.Inputs.known c.args.inputs.now in
    let p = err_from_is_err_and c.from_residual-in_err-second.result c.from_residual-in_err-second.ensures.1 in
    let refuses = c.in_err-second.ensures.refuses (one_accepted_before known c.in_ok-first.first c.in_ok-first.ensures.value) in
    rw (p.1, p.2) (of_reading c.in_err-second.field-0.0 refuses.named)

pub returns-in_err-second-clause-refuses : goal.returns-in_err-second-clause-refuses
returns-in_err-second-clause-refuses g c =
    let known = g.I.Inputs.known c.args.inputs.now in
    let p = err_from_is_err_and c.from_residual-in_err-second.result c.from_residual-in_err-second.ensures.1 in
    let refuses = c.in_err-second.ensures.refuses (one_accepted_before known c.in_ok-first.first c.in_ok-first.ensures.value) in
    rw p.1 (λ inner is. refuses_inside known c.in_err-second.field-0.0 inner refuses (sym p.2 ∙ is))

pub returns-clause-value : goal.returns-clause-value
returns-clause-value g c =
    let known = g.I.Inputs.known c.args.inputs.now in
    let (lines, shows, added) = c.in_ok-push_difference.ensures in
    let text : string_bytes c.push_difference.new.text ≡ lines = search rules in
    let types = rw c.first.view_is at c.first.invariant.measured.types in
    let other_types = rw c.second.view_is at c.second.invariant.measured.types in
    rw text (shows_inputs c.args.scope known c.in_ok-first.first c.in_ok-second.second lines types other_types c.in_ok-first.ensures.value c.in_ok-second.ensures.value shows)

pub returns-clause-read : goal.returns-clause-read
returns-clause-read g c = both_read (g.I.Inputs.known c.args.inputs.now) c.requires c.in_ok-second.ensures.read
