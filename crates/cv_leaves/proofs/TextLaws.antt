-- Pieces of a body: where they begin and end, and the numbers in them.
use Rattle.std.proofs.Common.{◌≡◌, ◌≤◌, ◌<◌, ◌+◌, ◌-◌, ◌++◌, ℕ, List, [], ◌∷◌, None, length, take, drop, refl, sym, ap, arith, ◌∙◌}
use Rattle.std.specs.Prelude.{nat_le}
use Rattle.std.proofs.lemmas.Bool.{leb-true, le-leb}
use Rattle.std.proofs.lemmas.List.{drop-drop, drop-take, drop_at, take-append-drop, length-append, length-take, length-drop}
use Rattle.std.proofs.Math.Seq.{take-add, take-append_seam}
use Rattle.byte_fields.specs.Check.{first_failing}
use Rattle.byte_fields.specs.Number.{number_at}
use Rattle.byte_fields.proofs.CheckLaws.{check_held}
use Rattle.byte_fields.proofs.NumberLaws.{number_at-take, number_at-append, number_at-drop}
use Rattle.cv_leaves.specs.Field.{field_checks}
use Rattle.cv_leaves.specs.declared.fault.LeafFault.TheVariants.{Body}

-- ---- from one offset to another

-- the bytes from `at` up to `end`
abbrev pub text_of : List ℕ → ℕ → ℕ → List ℕ
text_of body at end = take (end - at) (drop at body)

-- the bytes from `at` on are that piece and the bytes from `end` on
pub cut : (body : List ℕ) (at end : ℕ) → at ≤ end → drop at body ≡ text_of body at end ++ drop end body
cut body at end le =
    let e : at + (end - at) ≡ end = omega arith in
    let d : drop (end - at) (drop at body) ≡ drop end body = drop-drop (end - at) at body ∙ ap (λ (n : ℕ). drop n body) e in
    sym (take-append-drop (end - at) (drop at body)) ∙ ap (λ (xs : List ℕ). text_of body at end ++ xs) d

-- its length, within the body
pub text_len : (body : List ℕ) (at end : ℕ) → at ≤ end → end ≤ length body → length (text_of body at end) ≡ end - at
text_len body at end le inside = omega (arith, length-take (end - at) (drop at body), length-drop at body)

-- it is the piece up to an offset between, and the one from there on
pub text_split : (body : List ℕ) (a b c : ℕ) → a ≤ b → b ≤ c → text_of body a c ≡ text_of body a b ++ text_of body b c
text_split body a b c first second =
    let e : c - a ≡ (b - a) + (c - b) = omega arith in
    let s : a + (b - a) ≡ b = omega arith in
    let d : drop (b - a) (drop a body) ≡ drop b body = drop-drop (b - a) a body ∙ ap (λ (n : ℕ). drop n body) s in
    rw e (take-add (b - a) (c - b) (drop a body) ∙ ap (λ (xs : List ℕ). take (b - a) (drop a body) ++ take (c - b) xs) d)

-- the number of two bytes after its first two bytes
pub second_of_text : (body : List ℕ) (at len : ℕ) → 4 ≤ len → number_at 2 (take len (drop at body)) 2 ≡ number_at 2 body (at + 2)
second_of_text body at len long =
    let e : len ≡ 2 + (len - 2) = omega arith in
    let whole : drop 2 (take len (drop at body)) ≡ take (len - 2) (drop (at + 2) body) =
    ap (λ (n : ℕ). drop 2 (take n (drop at body))) e ∙ drop-take 2 (len - 2) (drop at body) ∙ ap (λ (xs : List ℕ). take (len - 2) xs) (drop-drop 2 at body) in
    sym (number_at-drop 2 (take len (drop at body)) 2) ∙ ap (λ (xs : List ℕ). number_at 2 xs 0) whole ∙ number_at-take 2 body (at + 2) (len - 2) (omega arith)

-- ---- met at an offset

-- a piece that is met lies within the body
pub text_inside : (body : List ℕ) (at : ℕ) (t back : List ℕ) → drop at body ≡ t ++ back → 0 < length t → at + length t ≤ length body
text_inside body at t back is some = omega (arith, length-drop at body, ap length is, length-append t back)

-- what comes after it
pub text_behind : (body : List ℕ) (at end : ℕ) (t back : List ℕ) → drop at body ≡ t ++ back → at + length t ≡ end → drop end body ≡ back
text_behind body at end t back is ends =
    ap (λ (n : ℕ). drop n body) (sym ends) ∙ sym (drop-drop (length t) at body) ∙ ap (λ (x : List ℕ). drop (length t) x) is ∙ drop_at t back (length t) refl

-- its first number is that of the body
pub number_of_text : (count : ℕ) (body : List ℕ) (at : ℕ) (t back : List ℕ) → drop at body ≡ t ++ back → count ≤ length t → number_at count body at ≡ number_at count t 0
number_of_text count body at t back is long =
    sym (number_at-drop count body at) ∙ ap (λ (x : List ℕ). number_at count x 0) is ∙ number_at-append count t back long

-- its number of two bytes after its first two bytes is that of the body
pub second_met : (body : List ℕ) (at : ℕ) (t back : List ℕ) → drop at body ≡ t ++ back → 4 ≤ length t → number_at 2 body (at + 2) ≡ number_at 2 t 2
second_met body at t back is long =
    let cut_off : take (length t) (drop at body) ≡ t = ap (λ (xs : List ℕ). take (length t) xs) is ∙ take-append_seam t back in
    sym (second_of_text body at (length t) long) ∙ ap (λ (xs : List ℕ). number_at 2 xs 2) cut_off

-- a piece without bytes is empty
pub no_bytes : (x : List ℕ) → length x ≤ 0 → x ≡ []
no_bytes [] none = refl
no_bytes (b ∷ x) none = absurd (omega (arith, none))

-- ---- fields

-- a field whose check holds lies within the body
pub fits_held : (body : List ℕ) (at len : ℕ) → first_failing (field_checks body at len) ≡ None → at + len ≤ length body
fits_held body at len held = leb-true (at + len) (length body) (check_held (nat_le (at + len) (length body)) (Body at) held)

-- the check of a field that lies within the body holds
pub fits_holds : (body : List ℕ) (at len : ℕ) → at + len ≤ length body → first_failing (field_checks body at len) ≡ None
fits_holds body at len inside = rw (le-leb (at + len) (length body) inside) refl
