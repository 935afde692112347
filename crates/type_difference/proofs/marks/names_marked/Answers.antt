use Rattle.std.proofs.Common.{◌≡◌, ◌+◌, ◌<◌, ◌∙◌, length, rules}
use Rattle.type_difference.specs.Marks.{NamesMarked}
use Rattle.type_trees.proofs.WalkLaws.{own_fit}
use Rattle.type_difference.proofs.DifferenceLaws.{all_left}
use Rattle.tpi_records.specs.Header.{first_index}
use Rattle.type_difference.proofs.marks.names_marked.Goals as goal

pub loop-place-init : goal.loop-place-init
loop-place-init c =
    let r = c.args.bytes.now in
    let left : c.into_iter-place-iterator.result ≡ c.places-place-items.result = search rules in
    let own = own_fit r c.places-place-items.result c.places-place-items.ensures in
    let rest = all_left r c.into_iter-place-iterator.result (NamesMarked c.args.numbers.now c.args.marks.now) (left ∙ own.0) in
    let named = all_left r c.into_iter-place-iterator.result (λ n. n < first_index + length c.args.numbers.now) (left ∙ own.0) in
    record { rest = rest; fit = rw left own.1; there = named.1 c.requires.there }
