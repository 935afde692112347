-- What the texts are once the last of them was changed.
use Rattle.std.proofs.Common.{◌≡◌, ℕ, zero, suc, ◌+◌, ◌<◌, List, [], ◌∷◌, ◌++◌, length, take, drop, get_or, refl, sym, ap, ◌∙◌, arith, length-append, get_or-set_same}
use Rattle.std.specs.List.{concat}
use Rattle.std.proofs.lemmas.List.{append_assoc, take-append-drop}
use Rattle.std.proofs.lemmas.List.Folds.{concat-append}
use lib.Seq.{take-append_seam, drop-append_seam, take-append-add}
use Rattle.packed_texts.specs.PackedTexts.{cut_as, overwritten, written_at}
use Rattle.packed_texts.proofs.WrittenLaws.{written_text}

many_cut : (texts : List (List ℕ)) (bytes : List ℕ) → length (cut_as texts bytes) ≡ length texts
unfolding cut_as
many_cut [] bytes = refl
many_cut (t ∷ ts) bytes = let e = many_cut ts (drop (length t) bytes) in omega arith

-- the first texts are cut as they were
front_cut : (texts : List (List ℕ)) (k : ℕ) (rest : List ℕ) → take k (cut_as texts (concat (take k texts) ++ rest)) ≡ take k texts
unfolding cut_as
front_cut texts zero rest = refl
front_cut [] (suc k) rest = refl
front_cut (t ∷ ts) (suc k) rest =
    rw (append_assoc t (concat (take k ts)) rest, take-append_seam t (concat (take k ts) ++ rest), drop-append_seam t (concat (take k ts) ++ rest), front_cut ts k rest) refl

-- the text at a position is written over: there are as many texts
pub many_written : (texts : List (List ℕ)) (k : ℕ) (new : List ℕ) → length (written_at texts k new) ≡ length texts
unfolding written_at
many_written texts k new = many_cut texts (overwritten (concat texts) (length (concat (take k texts))) new)

-- and those before it stay
pub others_written : (texts : List (List ℕ)) (k : ℕ) (new : List ℕ) → take k (written_at texts k new) ≡ take k texts
unfolding written_at overwritten
others_written texts k new =
    let front : List ℕ = concat (take k texts) in
    let behind : List ℕ = concat (drop k texts) in
    let parts : concat texts ≡ front ++ behind = ap concat (sym (take-append-drop k texts)) ∙ concat-append (take k texts) (drop k texts) in
    let rest : List ℕ = new ++ drop (length front + length new) (concat texts) in
    let first : take (length front) (concat texts) ≡ front = ap (take (length front)) parts ∙ take-append_seam front behind in
    let long : length (concat texts) ≡ length front + length behind = ap length parts ∙ length-append front behind in
    let bytes : take (length (concat texts)) (take (length front) (concat texts) ++ rest) ≡ front ++ take (length behind) rest =
    ap (λ (xs : List ℕ). take (length (concat texts)) (xs ++ rest)) first ∙ ap (λ (n : ℕ). take n (front ++ rest)) long ∙ take-append-add front rest (length behind) in
    ap (λ (xs : List ℕ). take k (cut_as texts xs)) bytes ∙ front_cut texts k (take (length behind) rest)

-- the text itself, if what is written is as long
pub text_written : (texts : List (List ℕ)) (k : ℕ) (new : List ℕ) → k < length texts → length new ≡ length (get_or texts k []) → get_or (written_at texts k new) k [] ≡ new
text_written texts k new inside long = ap (λ (ts : List (List ℕ)). get_or ts k []) (written_text texts k new inside long) ∙ get_or-set_same texts k new [] inside
