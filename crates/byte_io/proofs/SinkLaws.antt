-- Bytes that a sink takes step by step.
use Rattle.std.proofs.Common.{◌≡◌, ℕ, ◌-◌, ◌<◌, List, [], ◌++◌, length, take, drop, Option, refl, sym, ap, ◌∙◌, append_assoc, arith}
use Rattle.std.proofs.KnownBytes.{Appends-trans}
use Rattle.std.proofs.lemmas.List.{append-nil, take_at, take_rest, take-append-drop, length-append}
use Rattle.std.specs.Io.KnownBytes.{Appends}

-- n more bytes: what was taken, and what is left
pub taken_more : (bytes rest taken : List ℕ) (n : ℕ) → bytes ≡ taken ++ rest → bytes ≡ (taken ++ take n rest) ++ take (length rest - n) (drop n rest)
taken_more bytes rest taken n e =
    e ∙ ap (λ (s : List ℕ). taken ++ s) (sym (take-append-drop n rest)) ∙ sym (append_assoc taken (take n rest) (drop n rest)) ∙ rw take_rest refl

-- if no more is taken, what was taken is a proper prefix
pub prefix_is : (old between new : Option (List ℕ)) (bytes rest taken : List ℕ) (count : ℕ) → bytes ≡ taken ++ rest → 0 < length rest → count ≡ 0 → Appends old between taken → Appends between new (take count rest)
    → (n : ℕ) × (n < length bytes) × Appends old new (take n bytes)
prefix_is old between new bytes rest taken count e more none before last =
    let all : Appends old new (taken ++ []) = Appends-trans old between new taken [] before (rw none at last) in
    let front : take (length taken) bytes ≡ taken ++ [] = ap (take (length taken)) e ∙ take_at taken rest (length taken) refl ∙ sym (append-nil taken) in
    (length taken, omega (arith, ap length e, length-append taken rest), rw front all)
