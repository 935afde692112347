-- What the texts are once one of them was written over.
use Rattle.std.proofs.Common.{◌≡◌, ℕ, zero, suc, ◌+◌, ◌-◌, ◌*◌, ◌<◌, ◌≤◌, List, [], ◌∷◌, ◌++◌, length, take, drop, set, get_or, refl, sym, ap, ◌∙◌, subst, arith, length-append, length-drop}
use Rattle.std.proofs.lemmas.List.{append_assoc, take-append-le, drop-drop, length-take-le}
use Rattle.std.proofs.Math.Seq.{drop-append-add}
use lib.Seq.{take-append_seam, drop-append_seam}
use Rattle.std.specs.List.{concat}
use Rattle.packed_texts.specs.PackedTexts.{texts_in, Rise, in_bytes, cut_as, overwritten, written_at}
use Rattle.packed_texts.proofs.PackedLaws.{many_texts, many_in, start_in, start_le, rise_le, whole, rise_cut, texts_cut}

-- ---- What the vector is then

-- texts that end at these offsets are cut as those of other bytes that end there
cut-in : (bytes new : List ℕ) (from : ℕ) (ends : List ℕ) → Rise from ends (from + length bytes) → texts_in new from ends ≡ cut_as (texts_in bytes from ends) new
unfolding texts_in cut_as
cut-in bytes new from [] h = refl
cut-in bytes new from (end ∷ ends) h =
    let le = rise_le end (from + length bytes) ends h.1 in
    let long : length (take (end - from) bytes) ≡ end - from = length-take-le (end - from) bytes (omega (arith, le, h.0)) in
    let left : end + length (drop (end - from) bytes) ≡ from + length bytes = omega (arith, length-drop (end - from) bytes, le, h.0) in
    ap (λ (xs : List (List ℕ)). take (end - from) new ∷ xs) (cut-in (drop (end - from) bytes) (drop (end - from) new) end ends (subst (Rise end ends) (sym left) h.1))
    ∙ sym (ap (λ (n : ℕ). take n new ∷ cut_as (texts_in (drop (end - from) bytes) end ends) (drop n new)) long)

start_inside : (bytes words : List ℕ) (k start : ℕ) → Rise 0 (in_bytes words) (length bytes) → k ≤ length words → start ≡ 4 * get_or (0 ∷ words) k 0 → start ≤ length bytes
start_inside bytes words k start h inside s =
    let le = start_le 0 (length bytes) (in_bytes words) k h (omega (arith, inside, many_in words)) in
    omega (arith, le.1, start_in words k inside, s)

-- where the text at a position begins
start_is : (bytes words : List ℕ) (k start : ℕ) → Rise 0 (in_bytes words) (length bytes) → k ≤ length words → start ≡ 4 * get_or (0 ∷ words) k 0 → length (concat (take k (texts_in bytes 0 (in_bytes words)))) ≡ start
start_is bytes words k start h inside s =
    let first : concat (take k (texts_in bytes 0 (in_bytes words))) ≡ take start bytes =
    ap concat (sym (texts_cut bytes words k start h inside s)) ∙ whole (take start bytes) (in_bytes (take k words)) (rise_cut bytes words k start h inside s) in
    ap length first ∙ length-take-le start bytes (start_inside bytes words k start h inside s)

over-long : (bytes new : List ℕ) (start : ℕ) → start ≤ length bytes → length bytes ≤ length (take start bytes ++ (new ++ drop (start + length new) bytes))
over-long bytes new start inside =
    omega (
      arith,
      inside,
      length-append (take start bytes) (new ++ drop (start + length new) bytes),
      length-append new (drop (start + length new) bytes),
      length-take-le start bytes inside,
      length-drop (start + length new) bytes,
    )

-- bytes with others written over them, as the vector has it
abbrev over_run : List ℕ → ℕ → List ℕ → List ℕ
over_run bytes start new = take start bytes ++ (new ++ drop (length new) (drop start bytes))

-- a vector with bytes written over it from the beginning of a text on
pub written_in : (bytes words : List ℕ) (texts : List (List ℕ)) (k start len : ℕ) (new : List ℕ) → texts ≡ texts_in bytes 0 (in_bytes words) → Rise 0 (in_bytes words) (length bytes) → k < length texts
    → start ≡ 4 * get_or (0 ∷ words) k 0 → len ≡ length bytes → texts_in (take len (over_run bytes start new ++ drop (length (over_run bytes start new)) bytes)) 0 (in_bytes words) ≡ written_at texts k new
unfolding written_at overwritten
written_in bytes words texts k start len new view h inside s all =
    let over : List ℕ = over_run bytes start new in
    let k_in : k ≤ length words = omega (arith, inside, ap length view, many_texts bytes words) in
    let zero_first : length bytes ≡ 0 + length bytes = omega arith in
    let put : over ≡ take start bytes ++ (new ++ drop (start + length new) bytes) = ap (λ (xs : List ℕ). take start bytes ++ (new ++ xs)) (drop-drop (length new) start bytes) in
    let long : len ≤ length over = omega (arith, all, ap length put, over-long bytes new start (start_inside bytes words k start h k_in s)) in
    let cut : take len (over ++ drop (length over) bytes) ≡ take len over = take-append-le len over (drop (length over) bytes) long in
    let at : length (concat (take k texts)) ≡ start = ap (λ (ts : List (List ℕ)). length (concat (take k ts))) view ∙ start_is bytes words k start h k_in s in
    let bs : concat texts ≡ bytes = ap concat view ∙ whole bytes (in_bytes words) h in
    ap (λ (xs : List ℕ). texts_in xs 0 (in_bytes words)) (cut ∙ ap (take len) put ∙ ap (λ (n : ℕ). take n (take start bytes ++ (new ++ drop (start + length new) bytes))) all)
    ∙ cut-in bytes (take (length bytes) (take start bytes ++ (new ++ drop (start + length new) bytes))) 0 (in_bytes words) (subst (Rise 0 (in_bytes words)) zero_first h)
    ∙ ap (λ (ts : List (List ℕ)). cut_as ts (take (length bytes) (take start bytes ++ (new ++ drop (start + length new) bytes)))) (sym view)
    ∙ ap (λ (n : ℕ). cut_as texts (take (length bytes) (take n bytes ++ (new ++ drop (n + length new) bytes)))) (sym at)
    ∙ ap (λ (xs : List ℕ). cut_as texts (take (length xs) (take (length (concat (take k texts))) xs ++ (new ++ drop (length (concat (take k texts)) + length new) xs)))) (sym bs)

-- ---- What the texts are then

all_taken : (x : List ℕ) → take (length x) x ≡ x
all_taken [] = refl
all_taken (b ∷ x) = ap (λ (y : List ℕ). b ∷ y) (all_taken x)

-- something as long is written between two others
between : (a t z new : List ℕ) → length new ≡ length t → overwritten (a ++ (t ++ z)) (length a) new ≡ a ++ (new ++ z)
unfolding overwritten
between a t z new long =
    let front : take (length a) (a ++ (t ++ z)) ≡ a = take-append_seam a (t ++ z) in
    let behind : drop (length a + length new) (a ++ (t ++ z)) ≡ z =
    drop-append-add a (t ++ z) (length new) ∙ ap (λ (n : ℕ). drop n (t ++ z)) long ∙ drop-append_seam t z in
    let same : length (a ++ (t ++ z)) ≡ length (a ++ (new ++ z)) =
    omega (arith, long, length-append a (t ++ z), length-append t z, length-append a (new ++ z), length-append new z) in
    rw (front, behind, same) (all_taken (a ++ (new ++ z)))

cut-own : (texts : List (List ℕ)) → cut_as texts (concat texts) ≡ texts
unfolding cut_as
cut-own [] = refl
cut-own (t ∷ ts) = rw (take-append_seam t (concat ts), drop-append_seam t (concat ts), cut-own ts) refl

cut-set : (texts : List (List ℕ)) (k : ℕ) (new : List ℕ) → k < length texts → length new ≡ length (get_or texts k []) → cut_as texts (concat (set texts k new)) ≡ set texts k new
unfolding cut_as
cut-set [] k new inside long = absurd (omega (arith, inside))
cut-set (t ∷ ts) zero new inside long = rw (← long, take-append_seam new (concat ts), drop-append_seam new (concat ts), cut-own ts) refl
cut-set (t ∷ ts) (suc k) new inside long =
    rw (take-append_seam t (concat (set ts k new)), drop-append_seam t (concat (set ts k new)), cut-set ts k new (omega (arith, inside)) long) refl

-- what lies before a text, the text, and what lies behind it
parts_at : (texts : List (List ℕ)) (k : ℕ) → k < length texts → concat texts ≡ concat (take k texts) ++ (get_or texts k [] ++ concat (drop (suc k) texts))
parts_at [] k inside = absurd (omega (arith, inside))
parts_at (t ∷ ts) zero inside = refl
parts_at (t ∷ ts) (suc k) inside =
    ap (λ (xs : List ℕ). t ++ xs) (parts_at ts k (omega (arith, inside))) ∙ sym (append_assoc t (concat (take k ts)) (get_or ts k [] ++ concat (drop (suc k) ts)))

parts_set : (texts : List (List ℕ)) (k : ℕ) (new : List ℕ) → k < length texts → concat (set texts k new) ≡ concat (take k texts) ++ (new ++ concat (drop (suc k) texts))
parts_set [] k new inside = absurd (omega (arith, inside))
parts_set (t ∷ ts) zero new inside = refl
parts_set (t ∷ ts) (suc k) new inside =
    ap (λ (xs : List ℕ). t ++ xs) (parts_set ts k new (omega (arith, inside))) ∙ sym (append_assoc t (concat (take k ts)) (new ++ concat (drop (suc k) ts)))

-- where a text is written that is as long as the one before, the others stay
pub written_text : (texts : List (List ℕ)) (k : ℕ) (new : List ℕ) → k < length texts → length new ≡ length (get_or texts k []) → written_at texts k new ≡ set texts k new
unfolding written_at
written_text texts k new inside long =
    let before : List ℕ = concat (take k texts) in
    let behind : List ℕ = concat (drop (suc k) texts) in
    ap (λ (xs : List ℕ). cut_as texts (overwritten xs (length before) new)) (parts_at texts k inside)
    ∙ ap (cut_as texts) (between before (get_or texts k []) behind new long ∙ sym (parts_set texts k new inside))
    ∙ cut-set texts k new inside long
