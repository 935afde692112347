-- Texts that are cut at an end, and grow.
use Rattle.std.proofs.Common.{◌≡◌, ◌≤◌, ◌<◌, ◌+◌, ◌-◌, ◌^◌, ◌∙◌, ℕ, zero, suc, List, [], ◌∷◌, ◌++◌, length, take, refl, sym, ap, arith, codes}
use Rattle.std.proofs.lemmas.Bool.{le-leb, lt-leb}
use Rattle.std.proofs.Math.Seq.{take-append-add}
use Rattle.output_words.specs.Bounded.{cut}
use Rattle.std.specs.List.{flat_map}
use Rattle.output_words.specs.Text.{quoted, quoted_byte}
use Rattle.std.proofs.lemmas.List.{take_all, length-take, length-append, append_assoc}

-- what is cut, and then grows and is cut again, may as well grow first
pub take_again : (end : ℕ) (xs ys : List ℕ) → take end (take end xs ++ ys) ≡ take end (xs ++ ys)
take_again zero xs ys = refl
take_again (suc n) [] ys = refl
take_again (suc n) (x ∷ xs) ys = ap (λ (zs : List ℕ). x ∷ zs) (take_again n xs ys)

not_below : (n : ℕ) → suc n ≤ 0 → ⊥
not_below n h = omega (arith, h)

-- a short text is whole
pub take_whole : (end : ℕ) (xs : List ℕ) → length xs ≤ end → xs ≡ take end xs
take_whole end xs short = sym (take_all end xs short)

-- as many bytes as there is room for
pub take_room : (end : ℕ) (xs ys : List ℕ) → length xs ≤ end → xs ++ take (end - length xs) ys ≡ take end (xs ++ ys)
take_room end [] ys short = ap (λ (k : ℕ). take k ys) (all_room end)
  where
    all_room : (n : ℕ) → n - 0 ≡ n
    all_room n = omega arith
take_room zero (x ∷ xs) ys short = absurd (not_below (length xs) short)
take_room (suc n) (x ∷ xs) ys short =
    ap (λ (k : ℕ). x ∷ (xs ++ take k ys)) (one_less n (length xs)) ∙ ap (λ (zs : List ℕ). x ∷ zs) (take_room n xs ys (omega (arith, short)))
  where
    one_less : (a b : ℕ) → suc a - suc b ≡ a - b
    one_less a b = omega arith

-- two texts one after the other
pub take_more : (end : ℕ) (old a b now new : List ℕ) → now ≡ take end (old ++ a) → new ≡ take end (now ++ b) → new ≡ take end (old ++ (a ++ b))
take_more end old a b now new first second =
    second ∙ ap (λ (xs : List ℕ). take end (xs ++ b)) first ∙ take_again end (old ++ a) b ∙ ap (λ (xs : List ℕ). take end xs) (append_assoc old a b)

-- no text at all
pub take_none : (end : ℕ) (old : List ℕ) → length old ≤ end → old ≡ take end (old ++ [])
take_none end old short = sym (take_all end (old ++ []) (omega (arith, short, length-append old [])) ∙ nothing_more old)
  where
    nothing_more : (xs : List ℕ) → xs ++ [] ≡ xs
    nothing_more [] = refl
    nothing_more (x ∷ xs) = ap (λ (ys : List ℕ). x ∷ ys) (nothing_more xs)

-- the name is whole
pub quoted_whole : (end : ℕ) (old name now new : List ℕ) → now ≡ take end (old ++ (34 ∷ flat_map quoted_byte name)) → new ≡ take end (now ++ 34 ∷ []) → new ≡ take end (old ++ quoted name)
unfolding quoted
quoted_whole end old name now new is more = take_more end old (34 ∷ flat_map quoted_byte name) (34 ∷ []) now new is more

-- three texts one after the other
pub three_more : (end : ℕ) (old a b c one two three : List ℕ) → one ≡ take end (old ++ a) → two ≡ take end (one ++ b) → three ≡ take end (two ++ c) → three ≡ take end (old ++ (a ++ b ++ c))
three_more end old a b c one two three p q r = take_more end old (a ++ b) c two three (take_more end old a b one two p q) r

-- four texts one after the other
pub four_more : (end : ℕ) (old a b c d one two three four : List ℕ) → one ≡ take end (old ++ a) → two ≡ take end (one ++ b) → three ≡ take end (two ++ c) → four ≡ take end (three ++ d)
    → four ≡ take end (old ++ (a ++ b ++ c ++ d))
four_more end old a b c d one two three four p q r s =
    take_more end old (a ++ b ++ c) d three four (take_more end old (a ++ b) c two three (take_more end old a b one two p q) r) s

-- the same with more texts
pub five_more : (end : ℕ) (old a b c d e one two three four five : List ℕ) → one ≡ take end (old ++ a) → two ≡ take end (one ++ b) → three ≡ take end (two ++ c) → four ≡ take end (three ++ d) → five ≡ take end (four ++ e)
    → five ≡ take end (old ++ (a ++ b ++ c ++ d ++ e))
five_more end old a b c d e one two three four five p q r s u =
    take_more end old (a ++ b ++ c ++ d) e four five (four_more end old a b c d one two three four p q r s) u

pub six_more : (end : ℕ) (old a b c d e f one two three four five six : List ℕ) → one ≡ take end (old ++ a) → two ≡ take end (one ++ b) → three ≡ take end (two ++ c) → four ≡ take end (three ++ d) → five ≡ take end (four ++ e) → six ≡ take end (five ++ f)
    → six ≡ take end (old ++ (a ++ b ++ c ++ d ++ e ++ f))
six_more end old a b c d e f one two three four five six p q r s u v =
    take_more end old (a ++ b ++ c ++ d ++ e) f five six (five_more end old a b c d e one two three four five p q r s u) v

take_shorter : (i j : ℕ) (xs : List ℕ) → i ≤ j → take i (take j xs) ≡ take i xs
take_shorter zero j xs le = refl
take_shorter (suc i) zero xs le = absurd (not_below i le)
take_shorter (suc i) (suc j) [] le = refl
take_shorter (suc i) (suc j) (x ∷ xs) le = ap (λ (ys : List ℕ). x ∷ ys) (take_shorter i j xs (omega (arith, le)))

-- a text of at most that many bytes is shown whole
pub cut_whole : (old words now : List ℕ) (end : ℕ) → end ≡ length old + 400 → now ≡ take (end + 1) (old ++ words) → length now ≤ end → now ≡ old ++ cut 400 words
unfolding cut
cut_whole old words now end is told short =
    let long : length words ≤ 400 = omega (arith, short, is, ap (λ (xs : List ℕ). length xs) told, length-take (end + 1) (old ++ words), length-append old words) in
    told ∙ take_all (end + 1) (old ++ words) (omega (arith, long, is, length-append old words)) ∙ rw (le-leb (length words) 400 long) refl

-- a longer one is cut
pub cut_part : (old words now last : List ℕ) (end : ℕ) → end ≡ length old + 400 → now ≡ take (end + 1) (old ++ words) → end < length now → last ≡ take end now ++ codes ".." → last ≡ old ++ cut 400 words
unfolding cut
cut_part old words now last end is told long more =
    let much : 400 < length words = omega (arith, long, is, ap (λ (xs : List ℕ). length xs) told, length-take (end + 1) (old ++ words), length-append old words) in
    let shorter : take end now ≡ take end (old ++ words) = ap (λ (xs : List ℕ). take end xs) told ∙ take_shorter end (end + 1) (old ++ words) (omega arith) in
    let parts : take end (old ++ words) ≡ old ++ take 400 words = ap (λ (n : ℕ). take n (old ++ words)) is ∙ take-append-add old words 400 in
    more ∙ ap (λ (xs : List ℕ). xs ++ codes "..") (shorter ∙ parts) ∙ append_assoc old (take 400 words) (codes "..") ∙ rw (lt-leb (length words) 400 much) refl

-- no text has as many bytes as this end
pub free : (now x : List ℕ) → length now < 2 ^ 64 - 1 → now ≡ take (2 ^ 64 - 1) x → now ≡ x
free now x short is = is ∙ take_all (2 ^ 64 - 1) x (omega (arith, short, ap (λ (xs : List ℕ). length xs) is, length-take (2 ^ 64 - 1) x))
