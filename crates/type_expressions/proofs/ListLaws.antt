-- Texts of a list that are told one after the other.
use Rattle.std.proofs.Common.{◌≡◌, ◌∙◌, ℕ, List, ◌∷◌, ◌++◌, take, ap}
use Rattle.std.proofs.lemmas.List.{append_assoc}
use Rattle.type_expressions.specs.Told.{strung}
use Rattle.output_words.proofs.TakeLaws.{take_again, take_more}

-- one text more
pub list_more : (end : ℕ) (text before here separator one two all : List ℕ) (others : List (List ℕ)) → one ≡ take end (text ++ before) → two ≡ take end (one ++ here)
    → take end (text ++ strung before separator (here ∷ others)) ≡ all → take end (two ++ strung separator separator others) ≡ all
list_more end text before here separator one two all others first second so_far =
    let rest = strung separator separator others in
    ap (λ (xs : List ℕ). take end (xs ++ rest)) (take_more end text before here one two first second) ∙ take_again end (text ++ (before ++ here)) rest
    ∙ ap (λ (xs : List ℕ). take end xs) (append_assoc text (before ++ here) rest)
    ∙ ap (λ (xs : List ℕ). take end (text ++ xs)) (append_assoc before here rest)
    ∙ so_far
