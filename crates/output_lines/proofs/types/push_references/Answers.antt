use Rattle.std.proofs.Common.{◌≡◌, refl, rules}
use Rattle.cv_leaves.proofs.PlaceLaws.{places_fit}
use Rattle.output_lines.proofs.types.push_references.Goals as goal

pub loop-place-init : goal.loop-place-init
loop-place-init g c =
    let has = c.places-place-items.ensures in
    let left : c.into_iter-place-iterator.result ≡ c.places-place-items.result = search rules in
    record { at = c.places-place-items.result; has = has; text = rw left refl; fit = rw left (places_fit c.args.bytes.now c.places-place-items.result has) }
