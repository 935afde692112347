use Rattle.std.proofs.Common.{◌≡◌, ◌∙◌, ◌++◌, ◌∷◌, ℕ, List, sym, ap}
use Rattle.std.specs.Prelude.{codes}
use Rattle.command_line.proofs.IndexLaws.{no_index}
use Rattle.command_line.proofs.index.read_index.Goals as goal

pub returns-clause-none : goal.returns-clause-none
returns-clause-none c =
    let argument = c.args.argument.now in
    let digits = c.in_ok-digits.digits.now in
    let stripped = c.in_ok-digits.ensures.cases in
    let is : argument ≡ codes "0x" ++ digits = stripped.1.1 ∙ ap (λ (x : List ℕ). 48 ∷ 120 ∷ x) (sym stripped.2) in
    rw c.ok.ensures.value (no_index argument digits c.from_str_radix.result is c.from_str_radix.ensures.value c.if-digits-gt8.false)
