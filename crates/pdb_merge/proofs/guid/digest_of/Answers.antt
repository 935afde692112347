use Rattle.std.proofs.Common.{◌≡◌, ◌+◌, ◌++◌, ◌<◌, ◌≤◌, ◌∙◌, List, ℕ, [], ◌∷◌, ap, append_assoc, get_or, length, rules, sym, take}
use Rattle.std.proofs.lemmas.List.{append-nil, take_all, take_more}
use Rattle.std.specs.List.{concat}
use Rattle.pdb_merge.proofs.guid.digest_of.Goals as goal

-- one text more
concat_more : (xs : List (List ℕ)) (y : List ℕ) → concat (xs ++ y ∷ []) ≡ concat xs ++ y
concat_more [] y = append-nil y
concat_more (x ∷ xs) y = ap (λ (z : List ℕ). x ++ z) (concat_more xs y) ∙ sym (append_assoc x (concat xs) y)

pub loop-position-preserved : goal.loop-position-preserved
loop-position-preserved g c =
    let canon = c.args.canon.now in
    let k = c.loop-position.position in
    let inside : k < length canon = search rules in
    let record_is : c.get.result.now ≡ get_or canon k [] = rw c.texts-texts.ensures at c.get.ensures in
    let more : concat (take (k + 1) canon) ≡ concat (take k canon) ++ c.get.result.now = ap (λ (xs : List (List ℕ)). concat xs) (take_more canon k [] inside) ∙ concat_more (take k canon) (get_or canon k []) ∙ ap (λ (x : List ℕ). concat (take k canon) ++ x) (sym record_is) in
    rw more (c.update.ensures (concat (take k canon)) c.loop-position.invariant)

pub returns : goal.returns
returns g c =
    let canon = c.args.canon.now in
    let past : length canon ≤ c.loop-position.position = search rules in
    rw (take_all c.loop-position.position canon past) at (c.finalize.ensures (concat (take c.loop-position.position canon)) c.loop-position.invariant)
