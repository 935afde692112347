use Rattle.std.proofs.Common.{◌≡◌, ◌∙◌, sym, ap, option_map}
use Rattle.std.specs.Prelude.{Some, None}
use Rattle.std.specs.Option.{option_copied}
use Rattle.indexmap.specs.IndexMap.{get_by}
use Rattle.type_changes.specs.Lone.{is_same_key}
use Rattle.type_changes.specs.Seen.{seen, seen_key}
use Rattle.type_changes.proofs.SoleLaws.{sole_got, sole_missing}
use Rattle.type_changes.proofs.sole.sole_of.Goals as goal

pub returns-in_err-get : goal.returns-in_err-get
returns-in_err-get g c = λ definitions are.
    let key = c.args.key.now in
    let none : option_copied c.get.result ≡ None = ap option_copied c.in_err-get.was in
    let got : None ≡ get_by (λ x. is_same_key (seen_key key) (seen_key x)) c.args.soles.now = sym none ∙ c.get.ensures.value in
    ap (option_map seen) c.from_residual.ensures ∙ sole_missing (seen_key key) definitions (ap (option_map (option_map seen)) got ∙ are key)

pub returns : goal.returns
returns g c = λ definitions are.
    let key = c.args.key.now in
    let found = c.in_ok-get.field-0.now in
    let some : option_copied c.get.result ≡ Some found = ap option_copied c.in_ok-get.was in
    let got : Some found ≡ get_by (λ x. is_same_key (seen_key key) (seen_key x)) c.args.soles.now = sym some ∙ c.get.ensures.value in
    sole_got (seen_key key) definitions (option_map seen found) (ap (option_map (option_map seen)) got ∙ are key)
