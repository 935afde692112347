-- Rows of numbers that lie one after the other in one list: where each is, and how they grow.
use Rattle.std.proofs.Common.{◌≡◌, ℕ, ◌+◌, ◌-◌, ◌<◌, ◌≤◌, List, [], ◌∷◌, ◌++◌, length, take, drop, get_or, refl, sym, ◌∙◌, subst, ap, arith, length-append}
use Rattle.std.proofs.lemmas.List.{length-take-le}
use Rattle.packed_texts.specs.PackedTexts.{texts_in, Rise}
use Rattle.packed_texts.proofs.PackedLaws.{start_le, end_ge, text_from, texts_more, rise_more, first_texts, rise_first}

-- where there are no ends, there are no rows
pub no_rows : texts_in [] 0 [] ≡ []
unfolding texts_in
no_rows = refl

-- a row lies between its start and its end
pub row_at : (numbers ends : List ℕ) (k start end : ℕ) → Rise 0 ends (length numbers) → k < length ends → start ≡ get_or (0 ∷ ends) k 0 → end ≡ get_or ends k 0 → take (end - start) (drop start numbers) ≡ get_or (texts_in numbers 0 ends) k []
row_at numbers ends k start end h inside s e =
    let z : get_or (0 ∷ ends) k 0 - 0 ≡ start = omega (arith, s) in
    sym (text_from numbers 0 (length numbers) ends k h inside ∙ rw (z, sym s, sym e) refl)

-- the end of a row is its start or comes after it
pub row_forward : (numbers ends : List ℕ) (k start end : ℕ) → Rise 0 ends (length numbers) → k < length ends → start ≡ get_or (0 ∷ ends) k 0 → end ≡ get_or ends k 0 → start ≤ end
row_forward numbers ends k start end h inside s e = omega (arith, (end_ge 0 (length numbers) ends k h inside).0, s, e)

-- the end of a row lies within the list
pub row_inside : (numbers ends : List ℕ) (k end : ℕ) → Rise 0 ends (length numbers) → k < length ends → end ≡ get_or ends k 0 → end ≤ length numbers
row_inside numbers ends k end h inside e = omega (arith, (end_ge 0 (length numbers) ends k h inside).1, e)

-- a row is pushed after the others
pub row_pushed : (numbers row ends : List ℕ) (end : ℕ) → Rise 0 ends (length numbers) → end ≡ length numbers + length row → texts_in (numbers ++ row) 0 (ends ++ end ∷ []) ≡ texts_in numbers 0 ends ++ row ∷ []
row_pushed numbers row ends end h is =
    let zero_first : length numbers ≡ 0 + length numbers = omega arith in
    texts_more numbers row 0 end ends (subst (Rise 0 ends) zero_first h) (omega (arith, is))

-- the ends still rise with one more row
pub rise_pushed : (numbers row ends : List ℕ) (end : ℕ) → Rise 0 ends (length numbers) → end ≡ length numbers + length row → Rise 0 (ends ++ end ∷ []) (length (numbers ++ row))
rise_pushed numbers row ends end h is =
    let long : length (numbers ++ row) ≡ end = length-append numbers row ∙ sym is in
    rw long (rise_more 0 (length numbers) end ends h (omega (arith, is)))

-- the first rows are left
pub rows_cut : (numbers ends : List ℕ) (k start : ℕ) → Rise 0 ends (length numbers) → k ≤ length ends → start ≡ get_or (0 ∷ ends) k 0 → texts_in (take start numbers) 0 (take k ends) ≡ take k (texts_in numbers 0 ends)
rows_cut numbers ends k start h inside s =
    let a : start ≡ get_or (0 ∷ ends) k 0 - 0 = omega (arith, s) in
    ap (λ (n : ℕ). texts_in (take n numbers) 0 (take k ends)) a ∙ first_texts numbers 0 (length numbers) ends k h inside

-- and their ends rise
pub rise_left : (numbers ends : List ℕ) (k start : ℕ) → Rise 0 ends (length numbers) → k ≤ length ends → start ≡ get_or (0 ∷ ends) k 0 → Rise 0 (take k ends) (length (take start numbers))
rise_left numbers ends k start h inside s =
    let le = (start_le 0 (length numbers) ends k h inside).1 in
    let long : length (take start numbers) ≡ get_or (0 ∷ ends) k 0 = length-take-le start numbers (omega (arith, s, le)) ∙ s in
    rw long (rise_first 0 (length numbers) ends k h inside)
