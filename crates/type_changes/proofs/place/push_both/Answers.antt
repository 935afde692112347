use Rattle.std.proofs.Common.{◌≡◌, ◌∙◌, List, ℕ, filter, ap, map, length, arith}
use Rattle.std.proofs.lemmas.List.{length-append}
use Rattle.type_changes.specs.Definition.{definitions}
use Rattle.type_changes.specs.Seen.{is_noted, seen_at}
use Rattle.type_changes.proofs.ChangeLaws.{lone_kept}
use Rattle.type_changes.proofs.PlaceLaws.{all_inside, all_kept}
use Rattle.type_changes.proofs.place.push_both.Goals as goal

pub returns-clause-lone : goal.returns-clause-lone
returns-clause-lone g c = λ trees others are other_are.
    let ours = definitions trees in
    let theirs = definitions others in
    let h = λ (x : List ℕ). g.S.Hasher.Hasher.finish (g.S.Hasher.Hasher.write (g.S.BuildHasher.build_hasher c.args.hasher) x) in
    let v = is_noted h c.in_ok-names.names.keys in
    let texts = c.push_texts.new.text.items in
    let both = c.push_texts-2.new.text.items in
    let places = c.in_ok-ours.ours.items in
    let grown = c.in_ok-theirs.ensures.kept in
    let first : map (seen_at both) places ≡ filter v ours =
    all_kept texts grown.0 both places grown.1 c.in_ok-ours.ensures.inside ∙ c.in_ok-ours.ensures.value trees are in
    rw (first, c.in_ok-theirs.ensures.value others other_are)
    (record {
      gone = lone_kept v ours theirs (c.in_ok-names.ensures.gone trees others are other_are);
      come = lone_kept v theirs ours (c.in_ok-names.ensures.come trees others are other_are);
    })

pub returns-clause-first : goal.returns-clause-first
returns-clause-first g c =
    let texts = c.push_texts.new.text.items in
    let both = c.push_texts-2.new.text.items in
    let grown = c.in_ok-theirs.ensures.kept in
    all_inside (length texts) (length both) c.in_ok-ours.ours.items (omega (arith, ap length grown.1, length-append texts grown.0)) c.in_ok-ours.ensures.inside
