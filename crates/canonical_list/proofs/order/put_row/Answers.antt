use Rattle.std.proofs.Common.{◌≡◌, ◌∙◌, ℕ, [], ap, get_or, length, set}
use Rattle.packed_texts.proofs.WrittenLaws.{written_text}
use Rattle.type_trees.specs.Table.{renumbered}
use Rattle.type_trees.proofs.RenumberLaws.{renumbered_long}
use Rattle.canonical_list.proofs.order.put_row.Goals as goal

pub returns : goal.returns
returns g c =
    let records = c.args.records.now in
    let k = c.args.position in
    let f : ℕ → ℕ = λ i. get_or c.args.numbers.now i 0 in
    let at = c.get_mut.ensures.value in
    let made = c.renumber_in_place.ensures in
    let row : c.renumber_in_place.new.«record» ≡ renumbered f (get_or records k []) = made.value (made.named (rw at c.requires.ready.named)) ∙ ap (renumbered f) at in
    written_text records k _ c.requires.inside (ap length row ∙ renumbered_long f (get_or records k []) c.requires.ready.checked) ∙ ap (set records k) row
