use Rattle.std.proofs.Common.{◌≡◌, ◌<◌, ◌∙◌, ℕ, ap, drop, get_or, rules}
use Rattle.canonical_list.proofs.HeadLaws.{head_same}
use Rattle.canonical_list.proofs.row.Row.new.Goals as goal

pub returns-clause-head : goal.returns-clause-head
returns-clause-head c =
    let x = c.args.bytes.now in
    let from = c.args.from in
    let same : (i : ℕ) → i < 8 → get_or c.opening.result i 0 ≡ get_or (drop from x) i 0 = λ i inside. c.opening.ensures i inside ∙ ap (λ y. get_or y i 0) c.rest_from.ensures in
    record {
      is_head = c.head_of.ensures ∙ head_same c.opening.result x from same;
      bytes = search rules;
    }
