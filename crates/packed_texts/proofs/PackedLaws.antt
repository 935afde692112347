-- How texts that lie one after the other are found, and how they grow.
use Rattle.std.proofs.Common.{◌≡◌, ℕ, zero, suc, ◌+◌, ◌-◌, ◌*◌, ◌%◌, ◌/◌, ◌<◌, ◌≤◌, List, [], ◌∷◌, ◌++◌, length, map, take, drop, get_or, refl, sym, ap, ◌∙◌, subst, arith, length-append, length-drop}
use Rattle.std.proofs.lemmas.List.{length-map, get_or-map, map-append, take-map, take-append-le, take-append-drop, take-take, drop-take, drop-drop, length-take-le}
use Rattle.std.specs.List.{concat}
use Rattle.packed_texts.specs.PackedTexts.{texts_in, Rise, in_bytes}

-- there is a text for each offset
pub length_of_texts : (bytes : List ℕ) (from : ℕ) (ends : List ℕ) → length (texts_in bytes from ends) ≡ length ends
unfolding texts_in
length_of_texts bytes from [] = refl
length_of_texts bytes from (end ∷ ends) = let e = length_of_texts (drop (end - from) bytes) end ends in omega arith

pub many_texts : (bytes words : List ℕ) → length (texts_in bytes 0 (in_bytes words)) ≡ length words
unfolding in_bytes
many_texts bytes words = length_of_texts bytes 0 (in_bytes words) ∙ length-map words (λ w. 4 * w)

pub rise_le : (from last : ℕ) (ends : List ℕ) → Rise from ends last → from ≤ last
rise_le from last [] h = omega (arith, h)
rise_le from last (end ∷ ends) h = let e = rise_le end last ends h.1 in omega (arith, e, h.0)

no_bytes : (x : List ℕ) → length x ≡ 0 → x ≡ []
no_bytes [] e = refl
no_bytes (b ∷ x) e = absurd (omega (arith, e))

-- one after the other, the texts are all of the bytes
all_of : (bytes : List ℕ) (from : ℕ) (ends : List ℕ) → Rise from ends (from + length bytes) → concat (texts_in bytes from ends) ≡ bytes
unfolding texts_in
all_of bytes from [] h = sym (no_bytes bytes (omega (arith, h)))
all_of bytes from (end ∷ ends) h =
    let le = rise_le end (from + length bytes) ends h.1 in
    let long : end + length (drop (end - from) bytes) ≡ from + length bytes = omega (arith, length-drop (end - from) bytes, le, h.0) in
    ap (λ (x : List ℕ). take (end - from) bytes ++ x) (all_of (drop (end - from) bytes) end ends (subst (Rise end ends) (sym long) h.1)) ∙ take-append-drop (end - from) bytes

pub whole : (bytes ends : List ℕ) → Rise 0 ends (length bytes) → concat (texts_in bytes 0 ends) ≡ bytes
whole bytes ends h = let e : length bytes ≡ 0 + length bytes = omega arith in all_of bytes 0 ends (subst (Rise 0 ends) e h)

-- where a text begins
pub first_start : (ends : List ℕ) (position : ℕ) → position ≡ 0 → 4 * get_or (0 ∷ ends) position 0 ≡ 0
first_start ends position e = rw e refl

pub next_start : (ends : List ℕ) (position before : ℕ) → position ≡ before + 1 → get_or (0 ∷ ends) position 0 ≡ get_or ends before 0
next_start ends position before e = let s : position ≡ suc before = omega (arith, e) in rw s refl

-- ---- one text

-- each text ends where it begins, or after
pub start_le : (from last : ℕ) (ends : List ℕ) (k : ℕ) → Rise from ends last → k ≤ length ends → (from ≤ get_or (from ∷ ends) k 0) × (get_or (from ∷ ends) k 0 ≤ last)
start_le from last ends zero h inside = (omega arith, rise_le from last ends h)
start_le from last [] (suc k) h inside = absurd (omega (arith, inside))
start_le from last (end ∷ ends) (suc k) h inside = let e = start_le end last ends k h.1 (omega (arith, inside)) in (omega (arith, e.0, h.0), e.1)

pub end_ge : (from last : ℕ) (ends : List ℕ) (k : ℕ) → Rise from ends last → k < length ends → (get_or (from ∷ ends) k 0 ≤ get_or ends k 0) × (get_or ends k 0 ≤ last)
end_ge from last [] k h inside = absurd (omega (arith, inside))
end_ge from last (end ∷ ends) zero h inside = (h.0, rise_le end last ends h.1)
end_ge from last (end ∷ ends) (suc k) h inside = end_ge end last ends k h.1 (omega (arith, inside))

pub text_from : (bytes : List ℕ) (from last : ℕ) (ends : List ℕ) (k : ℕ) → Rise from ends last → k < length ends
    → get_or (texts_in bytes from ends) k [] ≡ take (get_or ends k 0 - get_or (from ∷ ends) k 0) (drop (get_or (from ∷ ends) k 0 - from) bytes)
unfolding texts_in
text_from bytes from last [] k h inside = absurd (omega (arith, inside))
text_from bytes from last (end ∷ ends) zero h inside = let e : from - from ≡ 0 = omega arith in rw e refl
text_from bytes from last (end ∷ ends) (suc k) h inside =
    let start : ℕ = get_or (end ∷ ends) k 0 in
    let le = (start_le end last ends k h.1 (omega (arith, inside))).0 in
    let far : end - from + (start - end) ≡ start - from = omega (arith, le, h.0) in
    text_from (drop (end - from) bytes) end last ends k h.1 (omega (arith, inside))
    ∙ ap (take (get_or ends k 0 - start)) (drop-drop (start - end) (end - from) bytes ∙ ap (λ (n : ℕ). drop n bytes) far)

end_in : (words : List ℕ) (k : ℕ) → k < length words → get_or (in_bytes words) k 0 ≡ 4 * get_or words k 0
unfolding in_bytes
end_in words k inside = get_or-map (λ w. 4 * w) words k 0 0 inside

pub start_in : (words : List ℕ) (k : ℕ) → k ≤ length words → get_or (0 ∷ in_bytes words) k 0 ≡ 4 * get_or (0 ∷ words) k 0
start_in words zero inside = refl
start_in words (suc k) inside = end_in words k (omega (arith, inside))

pub many_in : (words : List ℕ) → length (in_bytes words) ≡ length words
unfolding in_bytes
many_in words = length-map words (λ w. 4 * w)

-- the text at a position is what lies between its start and its end
pub text_at : (bytes words : List ℕ) (k start end : ℕ) → Rise 0 (in_bytes words) (length bytes) → k < length words → start ≡ 4 * get_or (0 ∷ words) k 0 → end ≡ 4 * get_or words k 0
    → take (end - start) (drop start bytes) ≡ get_or (texts_in bytes 0 (in_bytes words)) k []
text_at bytes words k start end h inside s e =
    let many = many_in words in
    let a : get_or (0 ∷ in_bytes words) k 0 ≡ start = start_in words k (omega (arith, inside)) ∙ sym s in
    let b : get_or (in_bytes words) k 0 ≡ end = end_in words k inside ∙ sym e in
    let at = text_from bytes 0 (length bytes) (in_bytes words) k h (omega (arith, inside, many)) in
    let z : start - 0 ≡ start = omega arith in
    sym (at ∙ ap (λ (n : ℕ). take (n - get_or (0 ∷ in_bytes words) k 0) (drop (get_or (0 ∷ in_bytes words) k 0 - 0) bytes)) b
    ∙ ap (λ (n : ℕ). take (end - n) (drop (n - 0) bytes)) a ∙ ap (λ (n : ℕ). take (end - start) (drop n bytes)) z)

-- the end of a text is its start or comes after it
pub text_forward : (bytes words : List ℕ) (k start end : ℕ) → Rise 0 (in_bytes words) (length bytes) → k < length words → start ≡ 4 * get_or (0 ∷ words) k 0 → end ≡ 4 * get_or words k 0 → start ≤ end
text_forward bytes words k start end h inside s e =
    let le = end_ge 0 (length bytes) (in_bytes words) k h (omega (arith, inside, many_in words)) in
    omega (arith, le.0, start_in words k (omega (arith, inside)), end_in words k inside, s, e)

-- the end of a text lies within the bytes
pub text_inside : (bytes words : List ℕ) (k end : ℕ) → Rise 0 (in_bytes words) (length bytes) → k < length words → end ≡ 4 * get_or words k 0 → end ≤ length bytes
text_inside bytes words k end h inside e =
    let le = end_ge 0 (length bytes) (in_bytes words) k h (omega (arith, inside, many_in words)) in
    omega (arith, le.1, end_in words k inside, e)

-- ---- one more text

pub rise_more : (from last new : ℕ) (ends : List ℕ) → Rise from ends last → last ≤ new → Rise from (ends ++ new ∷ []) new
rise_more from last new [] h le = (omega (arith, h, le), refl)
rise_more from last new (end ∷ ends) h le = (h.0, rise_more end last new ends h.1 le)

pub texts_more : (bytes text : List ℕ) (from new : ℕ) (ends : List ℕ) → Rise from ends (from + length bytes) → new ≡ from + length bytes + length text → texts_in (bytes ++ text) from (ends ++ new ∷ []) ≡ texts_in bytes from ends ++ text ∷ []
unfolding texts_in
texts_more bytes text from new [] h is =
    let none : bytes ≡ [] = no_bytes bytes (omega (arith, h)) in
    let long : new - from ≡ length text = omega (arith, is, ap length none) in
    let same : take (new - from) (bytes ++ text) ≡ text = ap (λ (n : ℕ). take n (bytes ++ text)) long ∙ ap (λ (x : List ℕ). take (length text) (x ++ text)) none ∙ all_taken text in
    ap (λ (x : List ℕ). x ∷ []) same
  where
    all_taken : (x : List ℕ) → take (length x) x ≡ x
    all_taken [] = refl
    all_taken (b ∷ x) = ap (λ (y : List ℕ). b ∷ y) (all_taken x)
texts_more bytes text from new (end ∷ ends) h is =
    let le = rise_le end (from + length bytes) ends h.1 in
    let fits : end - from ≤ length bytes = omega (arith, le, h.0) in
    let long : end + length (drop (end - from) bytes) ≡ from + length bytes = omega (arith, length-drop (end - from) bytes, le, h.0) in
    let first : take (end - from) (bytes ++ text) ≡ take (end - from) bytes = take-append-le (end - from) bytes text fits in
    let after : drop (end - from) (bytes ++ text) ≡ drop (end - from) bytes ++ text = drop_in (end - from) bytes fits in
    let rest = texts_more (drop (end - from) bytes) text end new ends (subst (Rise end ends) (sym long) h.1) (omega (arith, is, long)) in
    ap (λ (x : List ℕ). x ∷ texts_in (drop (end - from) (bytes ++ text)) end (ends ++ new ∷ [])) first
    ∙ ap (λ (x : List ℕ). take (end - from) bytes ∷ texts_in x end (ends ++ new ∷ [])) after
    ∙ ap (λ (x : List (List ℕ)). take (end - from) bytes ∷ x) rest
  where
    drop_in : (n : ℕ) (x : List ℕ) → n ≤ length x → drop n (x ++ text) ≡ drop n x ++ text
    drop_in zero x le = refl
    drop_in (suc n) [] le = absurd (omega (arith, le))
    drop_in (suc n) (b ∷ x) le = drop_in n x (omega (arith, le))

word_more : (words : List ℕ) (word end : ℕ) → 4 * word ≡ end → in_bytes (words ++ word ∷ []) ≡ in_bytes words ++ end ∷ []
unfolding in_bytes
word_more words word end e = map-append (λ w. 4 * w) words (word ∷ []) ∙ ap (λ (n : ℕ). map (λ w. 4 * w) words ++ n ∷ []) e

-- a text is appended after the others
pub texts_pushed : (bytes text words : List ℕ) (word end : ℕ) → Rise 0 (in_bytes words) (length bytes) → end ≡ length bytes + length text → length bytes % 4 ≡ 0 → length text % 4 ≡ 0 → word ≡ end / 4
    → texts_in (bytes ++ text) 0 (in_bytes (words ++ word ∷ [])) ≡ texts_in bytes 0 (in_bytes words) ++ text ∷ []
texts_pushed bytes text words word end h is whole_bytes whole_text at =
    let zero_first : length bytes ≡ 0 + length bytes = omega arith in
    ap (texts_in (bytes ++ text) 0) (word_more words word end (omega (arith, is, whole_bytes, whole_text, at)))
    ∙ texts_more bytes text 0 end (in_bytes words) (subst (Rise 0 (in_bytes words)) zero_first h) (omega (arith, is))

pub rise_pushed : (bytes text words : List ℕ) (word end : ℕ) → Rise 0 (in_bytes words) (length bytes) → end ≡ length bytes + length text → length bytes % 4 ≡ 0 → length text % 4 ≡ 0 → word ≡ end / 4
    → Rise 0 (in_bytes (words ++ word ∷ [])) (length (bytes ++ text))
rise_pushed bytes text words word end h is whole_bytes whole_text at =
    let long : length (bytes ++ text) ≡ end = length-append bytes text ∙ sym is in
    rw (long, word_more words word end (omega (arith, is, whole_bytes, whole_text, at))) (rise_more 0 (length bytes) end (in_bytes words) h (omega (arith, is)))

-- ---- the first texts

pub rise_first : (from last : ℕ) (ends : List ℕ) (k : ℕ) → Rise from ends last → k ≤ length ends → Rise from (take k ends) (get_or (from ∷ ends) k 0)
rise_first from last ends zero h inside = refl
rise_first from last [] (suc k) h inside = absurd (omega (arith, inside))
rise_first from last (end ∷ ends) (suc k) h inside = (h.0, rise_first end last ends k h.1 (omega (arith, inside)))

pub first_texts : (bytes : List ℕ) (from last : ℕ) (ends : List ℕ) (k : ℕ) → Rise from ends last → k ≤ length ends → texts_in (take (get_or (from ∷ ends) k 0 - from) bytes) from (take k ends) ≡ take k (texts_in bytes from ends)
unfolding texts_in
first_texts bytes from last ends zero h inside = refl
first_texts bytes from last [] (suc k) h inside = absurd (omega (arith, inside))
first_texts bytes from last (end ∷ ends) (suc k) h inside =
    let start : ℕ = get_or (end ∷ ends) k 0 in
    let le = (start_le end last ends k h.1 (omega (arith, inside))).0 in
    let far : start - from ≡ end - from + (start - end) = omega (arith, le, h.0) in
    let one : take (end - from) (take (start - from) bytes) ≡ take (end - from) bytes = take-take (end - from) (start - from) bytes (omega (arith, far)) in
    let two : drop (end - from) (take (start - from) bytes) ≡ take (start - end) (drop (end - from) bytes) = ap (λ (n : ℕ). drop (end - from) (take n bytes)) far ∙ drop-take (end - from) (start - end) bytes in
    let rest = first_texts (drop (end - from) bytes) end last ends k h.1 (omega (arith, inside)) in
    ap (λ (x : List ℕ). x ∷ texts_in (drop (end - from) (take (start - from) bytes)) end (take k ends)) one
    ∙ ap (λ (x : List ℕ). take (end - from) bytes ∷ texts_in x end (take k ends)) two
    ∙ ap (λ (x : List (List ℕ)). take (end - from) bytes ∷ x) rest

first_in : (words : List ℕ) (k : ℕ) → in_bytes (take k words) ≡ take k (in_bytes words)
unfolding in_bytes
first_in words k = sym (take-map (λ w. 4 * w) k words)

pub texts_cut : (bytes words : List ℕ) (k start : ℕ) → Rise 0 (in_bytes words) (length bytes) → k ≤ length words → start ≡ 4 * get_or (0 ∷ words) k 0 → texts_in (take start bytes) 0 (in_bytes (take k words)) ≡ take k (texts_in bytes 0 (in_bytes words))
texts_cut bytes words k start h inside s =
    let many = many_in words in
    let a : start ≡ get_or (0 ∷ in_bytes words) k 0 - 0 = omega (arith, s, start_in words k inside) in
    ap (texts_in (take start bytes) 0) (first_in words k) ∙ ap (λ (n : ℕ). texts_in (take n bytes) 0 (take k (in_bytes words))) a
    ∙ first_texts bytes 0 (length bytes) (in_bytes words) k h (omega (arith, inside, many))

pub rise_cut : (bytes words : List ℕ) (k start : ℕ) → Rise 0 (in_bytes words) (length bytes) → k ≤ length words → start ≡ 4 * get_or (0 ∷ words) k 0 → Rise 0 (in_bytes (take k words)) (length (take start bytes))
rise_cut bytes words k start h inside s =
    let many = many_in words in
    let at = start_in words k inside in
    let le = (start_le 0 (length bytes) (in_bytes words) k h (omega (arith, inside, many))).1 in
    let long : length (take start bytes) ≡ get_or (0 ∷ in_bytes words) k 0 = length-take-le start bytes (omega (arith, s, at, le)) ∙ s ∙ sym at in
    rw (long, first_in words k) (rise_first 0 (length bytes) (in_bytes words) k h (omega (arith, inside, many)))

pub no_texts : texts_in [] 0 (in_bytes []) ≡ []
unfolding texts_in in_bytes
no_texts = refl

pub no_rise : Rise 0 (in_bytes []) 0
unfolding in_bytes
no_rise = refl
