-- A record and its blank are told in the same words.
use Rattle.std.proofs.Common.{◌≡◌, ◌≤◌, ◌<◌, ◌+◌, ◌-◌, ◌∙◌, ◌⊎◌, ◌==◌, ◌++◌, ℕ, Bool, true, false, cond, List, [], ◌∷◌, length, take, drop, get_or, refl, sym, ap, arith, inl, inr}
use Rattle.std.proofs.lemmas.List.{length-append, length-take, length-drop, get_or_append_left, get_or-take, get_or-drop, drop-drop, append_assoc}
use Rattle.std.proofs.lemmas.Slice.{drop-append-drop}
use Rattle.std.proofs.lemmas.Bool.{cases_eq, eq-eqb, ne_eqb}
use Rattle.std.proofs.Common.{nat_le, ◌&&◌, codes}
use Rattle.std.specs.Prelude.{Option, Some, None}
use Rattle.std.specs.Option.{option_map_or}
use Rattle.std.specs.Fmt.{decimal}
use Rattle.std.proofs.lemmas.Bool.{cases_Bool, leb-true}
use Rattle.byteorder.specs.Endian.{little_number}
use Rattle.byte_fields.specs.Name.{name_at, has_name}
use Rattle.cv_leaves.specs.Attributes.{points_to_member}
use Rattle.cv_leaves.specs.Leaf.{Leaf, leaf_of, leaves}
use Rattle.cv_leaves.specs.Name.{name_in, rest_in, from_name, name_of}
use Rattle.cv_leaves.specs.Numeric.{numeric_len, has_numeric, numeric_end}
use Rattle.cv_leaves.specs.Part.{part_places, part_end}
use Rattle.cv_leaves.specs.Checks.{rest_places, places_from}
use Rattle.cv_leaves.specs.declared.leaf.Rest.{Rest}
use Rattle.cv_leaves.specs.declared.leaf.Rest.TheVariants.{Nothing, Containing, Indices, Methods, Members}
use Rattle.cv_leaves.specs.declared.leaf.NamePlace.{NamePlace}
use Rattle.cv_leaves.specs.declared.leaf.NamePlace.TheVariants.{Unnamed, At, AfterNumeric}
use Rattle.cv_leaves.proofs.TestLaws.{and_both, found_passes}
use Rattle.cv_leaves.proofs.PartLaws.{no_places, places_here}
use Rattle.cv_leaves.proofs.RecordLaws.{places_split}
use Rattle.type_expressions.specs.Field.{name_text, numeric_value}
use Rattle.std.specs.List.{AllByRecursion}
use Rattle.byte_fields.specs.Number.{number_at, four_bytes}
use Rattle.byte_fields.proofs.NumberLaws.{length-four_bytes}
use Rattle.cv_leaves.specs.Blank.{put_four, blank}
use Rattle.cv_leaves.specs.Checks.{places_of, body_of, kind_of}
use Rattle.cv_leaves.specs.Place.{IsChecked}
use Rattle.cv_leaves.specs.References.{blanked}
use Rattle.cv_leaves.proofs.PutLaws.{put_len}
use Rattle.cv_leaves.proofs.FillLaws.{Fits, fits}
use Rattle.cv_leaves.proofs.NameLaws.{name_in_rest, name_of_is}
use Rattle.cv_leaves.proofs.PlaceLaws.{ends_behind}
use Rattle.cv_leaves.proofs.FilledLaws.{blanked_places, blanked_len, blanked_kind, own_places}
use Rattle.type_expressions.specs.Field.{number_in, numeric_text, shown_name, told_name, own_name}
use Rattle.type_expressions.specs.Told.{plain_words, told, modifier_words, pointer_words, bit_words}

-- ---- bytes

-- a byte before a number that is written stays
before : (x : List ℕ) (at n i : ℕ) → i < at → at ≤ length x → get_or (put_four x at n) i 0 ≡ get_or x i 0
unfolding put_four
before x at n i below inside =
    get_or_append_left (take at x) (four_bytes n ++ drop (at + 4) x) 0 i (omega (arith, length-take at x)) ∙ get_or-take at x i 0 below

-- what follows it stays
behind : (x : List ℕ) (at n k : ℕ) → at + 4 ≤ k → at + 4 ≤ length x → drop k (put_four x at n) ≡ drop k x
unfolding put_four
behind x at n k after inside =
    let long : length (take at x ++ four_bytes n) ≡ at + 4 = omega (arith, length-append (take at x) (four_bytes n), length-take at x, length-four_bytes n, inside) in
    let further : k ≡ (k - (at + 4)) + (at + 4) = omega (arith, after) in
    ap (λ (xs : List ℕ). drop k xs) (sym (append_assoc (take at x) (four_bytes n) (drop (at + 4) x)))
    ∙ drop-append-drop (at + 4) x (take at x ++ four_bytes n) k after long

-- the places are all behind this byte, or end before it
abbrev pub Outside : ℕ → List ℕ → Type 0
Outside i ps = AllByRecursion (λ p. (i < 4 + p) ⊎ (4 + p + 4 ≤ i)) ps

-- a byte outside of the places stays
byte_kept : (x : List ℕ) (from i : ℕ) (ps : List ℕ) → Fits from ps (length x) → Outside i ps → get_or (blank x ps) i 0 ≡ get_or x i 0
byte_kept x from i [] fit outside = refl
byte_kept x from i (p ∷ ps) fit outside =
    let inside : 4 + p + 4 ≤ length x = omega (arith, ends_behind (p + 4) ps fit.0 fit.1.1, fit.2) in
    let next : Fits (p + 4) ps (length (put_four x (4 + p) 0)) = (fit.0, fit.1.1, omega (arith, fit.2, put_len x (4 + p) 0 inside)) in
    byte_kept (put_four x (4 + p) 0) (p + 4) i ps next outside.1 ∙ one_kept x p i inside outside.0
  where
    one_kept : (y : List ℕ) (q j : ℕ) → 4 + q + 4 ≤ length y → (j < 4 + q) ⊎ (4 + q + 4 ≤ j) → get_or (put_four y (4 + q) 0) j 0 ≡ get_or y j 0
    one_kept y q j inside (inl below) = before y (4 + q) 0 j below (omega (arith, inside))
    one_kept y q j inside (inr after) =
        let none : j + 0 ≡ j = omega arith in
        ap (λ (k : ℕ). get_or (put_four y (4 + q) 0) k 0) (sym none) ∙ sym (get_or-drop j (put_four y (4 + q) 0) 0 0) ∙ ap (λ (xs : List ℕ). get_or xs 0 0) (behind y (4 + q) 0 j after inside) ∙ get_or-drop j y 0 0 ∙ ap (λ (k : ℕ). get_or y k 0) none

-- what follows all places stays
rest_kept : (x : List ℕ) (from k : ℕ) (ps : List ℕ) → Fits from ps (length x) → AllByRecursion (λ p. 4 + p + 4 ≤ k) ps → drop k (blank x ps) ≡ drop k x
rest_kept x from k [] fit after = refl
rest_kept x from k (p ∷ ps) fit after =
    let inside : 4 + p + 4 ≤ length x = omega (arith, ends_behind (p + 4) ps fit.0 fit.1.1, fit.2) in
    let next : Fits (p + 4) ps (length (put_four x (4 + p) 0)) = (fit.0, fit.1.1, omega (arith, fit.2, put_len x (4 + p) 0 inside)) in
    rest_kept (put_four x (4 + p) 0) (p + 4) k ps next after.1 ∙ behind x (4 + p) 0 k after.0 inside

-- ---- a record and its blank

same_byte : (r : List ℕ) (i : ℕ) → IsChecked r → Outside i (places_of r) → get_or (blanked r) i 0 ≡ get_or r i 0
unfolding blanked
same_byte r i checked outside = byte_kept r 0 i (places_of r) (fits r (places_of r) (own_places r checked)) outside

pub same_rest : (r : List ℕ) (k : ℕ) → IsChecked r → AllByRecursion (λ p. 4 + p + 4 ≤ 4 + k) (places_of r) → drop k (body_of (blanked r)) ≡ drop k (body_of r)
unfolding blanked body_of
same_rest r k checked after =
    let x = blank r (places_of r) in
    drop-drop k 4 x ∙ rest_kept r 0 (4 + k) (places_of r) (fits r (places_of r) (own_places r checked)) after ∙ sym (drop-drop k 4 r)

-- a byte of the body is four bytes further on
shifted : (x : List ℕ) (j k : ℕ) → get_or (drop j (body_of x)) k 0 ≡ get_or x (4 + (j + k)) 0
unfolding body_of
shifted x j k = get_or-drop j (drop 4 x) k 0 ∙ get_or-drop 4 x (j + k) 0

pub same_in_body : (r : List ℕ) (j k : ℕ) → IsChecked r → Outside (4 + (j + k)) (places_of r) → get_or (drop j (body_of (blanked r))) k 0 ≡ get_or (drop j (body_of r)) k 0
same_in_body r j k checked outside = shifted (blanked r) j k ∙ same_byte r (4 + (j + k)) checked outside ∙ sym (shifted r j k)

pub body_len : (x y : List ℕ) → length x ≡ length y → length (body_of x) ≡ length (body_of y)
unfolding body_of
body_len x y same = omega (arith, same, length-drop 4 x, length-drop 4 y)

one_same : (x y : List ℕ) (j : ℕ) → length x ≡ length y → get_or (drop j x) 0 0 ≡ get_or (drop j y) 0 0 → number_in 1 x j ≡ number_in 1 y j
unfolding number_in number_at
one_same x y j len a = rw (len, a) refl

pub two_same : (x y : List ℕ) (j : ℕ) → length x ≡ length y → ((k : ℕ) → k < 2 → get_or (drop j x) k 0 ≡ get_or (drop j y) k 0) → number_in 2 x j ≡ number_in 2 y j
unfolding number_in number_at
two_same x y j len each = rw (len, each 0 (omega arith), each 1 (omega arith)) refl

pub four_same : (x y : List ℕ) (j : ℕ) → length x ≡ length y → ((k : ℕ) → k < 4 → get_or (drop j x) k 0 ≡ get_or (drop j y) k 0) → number_in 4 x j ≡ number_in 4 y j
unfolding number_in number_at
four_same x y j len each = rw (len, each 0 (omega arith), each 1 (omega arith), each 2 (omega arith), each 3 (omega arith)) refl

-- ---- by kind

first_only : (r : List ℕ) (l : Leaf) → Some l ≡ leaf_of (kind_of r) → l.rest ≡ Nothing → places_of r ≡ l.places
first_only r l is none = places_split r l is ∙ rw none (ap (λ (ps : List ℕ). l.places ++ ps) (no_places Nothing (body_of r) 0 0 (omega arith)) ∙ nothing_more l.places)
  where
    nothing_more : (xs : List ℕ) → xs ++ [] ≡ xs
    nothing_more [] = refl
    nothing_more (x ∷ xs) = ap (λ (ys : List ℕ). x ∷ ys) (nothing_more xs)

-- the name of a leaf is behind its places
abbrev ends_before : ℕ → List ℕ → Bool
ends_before k [] = true
ends_before k (p ∷ ps) = nat_le (p + 4) k && ends_before k ps

abbrev is_nothing : Rest → Bool
is_nothing Nothing = true
is_nothing _ = false

abbrev names_behind : NamePlace → Rest → List ℕ → Bool
names_behind Unnamed rest ps = true
names_behind (At k) rest ps = is_nothing rest && ends_before k ps
names_behind (AfterNumeric k) rest ps = is_nothing rest && ends_before k ps

all_before : (k : ℕ) (ps : List ℕ) → ends_before k ps ≡ true → AllByRecursion (λ p. 4 + p + 4 ≤ 4 + k) ps
all_before k [] e = tt
all_before k (p ∷ ps) e = let both = and_both (nat_le (p + 4) k) (ends_before k ps) e in (omega (arith, leb-true (p + 4) k both.0), all_before k ps both.1)

nothing_is : (rest : Rest) → is_nothing rest ≡ true → rest ≡ Nothing
nothing_is Nothing e = refl
nothing_is Containing e = absurd cc
nothing_is Indices e = absurd cc
nothing_is Methods e = absurd cc
nothing_is Members e = absurd cc

-- the numeric leaf and the name there depend on the bytes from there on
pub numeric_same : (x y : List ℕ) (k : ℕ) → length x ≡ length y → drop k x ≡ drop k y → numeric_text x k ≡ numeric_text y k
unfolding numeric_text numeric_value has_numeric numeric_end number_at
numeric_same x y k len d =
    let two : drop (k + 2) x ≡ drop (k + 2) y = further x ∙ ap (λ (xs : List ℕ). drop 2 xs) d ∙ sym (further y) in
    rw (len, d, two) refl
  where
    further : (z : List ℕ) → drop (k + 2) z ≡ drop 2 (drop k z)
    further z = ap (λ (n : ℕ). drop n z) (omega arith) ∙ sym (drop-drop 2 k z)

pub name_same : (x y : List ℕ) (k : ℕ) → drop k x ≡ drop k y → name_at x k ≡ name_at y k
unfolding name_at has_name
name_same x y k d = rw d refl

-- so do the bytes from where the name begins
rest_same : (x y : List ℕ) (k : ℕ) → length x ≡ length y → drop k x ≡ drop k y → rest_in (AfterNumeric k) x ≡ rest_in (AfterNumeric k) y
unfolding rest_in has_numeric numeric_end number_at
rest_same x y k len d =
    let n = numeric_len (little_number 2 (drop k y)) in
    let later : drop (k + n) x ≡ drop (k + n) y = further x n ∙ ap (λ (xs : List ℕ). drop n xs) d ∙ sym (further y n) in
    rw (len, d, later) refl
  where
    further : (z : List ℕ) (n : ℕ) → drop (k + n) z ≡ drop n (drop k z)
    further z n = ap (λ (m : ℕ). drop m z) (omega arith) ∙ sym (drop-drop n k z)

-- the name at the head of them, if there are any
abbrev name_first : Option (List ℕ) → Option (List ℕ)
name_first from = option_map_or (λ rest. name_at rest 0) from None

pub named_same : (x y : List ℕ) (k : ℕ) → length x ≡ length y → drop k x ≡ drop k y → name_in (AfterNumeric k) x ≡ name_in (AfterNumeric k) y
named_same x y k len d = name_in_rest (AfterNumeric k) x ∙ ap name_first (rest_same x y k len d) ∙ sym (name_in_rest (AfterNumeric k) y)

same_from_by : (r : List ℕ) (l : Leaf) (naming : NamePlace) → IsChecked r → Some l ≡ leaf_of (kind_of r) → names_behind naming l.rest l.places ≡ true → rest_in naming (body_of (blanked r)) ≡ rest_in naming (body_of r)
unfolding rest_in
same_from_by r l Unnamed checked is behind = refl
same_from_by r l (At k) checked is behind =
    let both = and_both (is_nothing l.rest) (ends_before k l.places) behind in
    let ps = first_only r l is (nothing_is l.rest both.0) in
    ap (λ (xs : List ℕ). Some xs) (same_rest r k checked (rw ps (all_before k l.places both.1)))
same_from_by r l (AfterNumeric k) checked is behind =
    let both = and_both (is_nothing l.rest) (ends_before k l.places) behind in
    let ps = first_only r l is (nothing_is l.rest both.0) in
    rest_same (body_of (blanked r)) (body_of r) k (body_len (blanked r) r (blanked_len r checked)) (same_rest r k checked (rw ps (all_before k l.places both.1)))

from_is : (r : List ℕ) (l : Leaf) → Some l ≡ leaf_of (kind_of r) → from_name r ≡ rest_in l.naming (body_of r)
unfolding from_name
from_is r l is = rw (← is) refl

behind_told : (kind : ℕ) (l : Leaf) → leaf_of kind ≡ Some l → names_behind l.naming l.rest l.places ≡ true
unfolding leaf_of
behind_told kind l is = found_passes (λ k l. names_behind l.naming l.rest l.places) leaves kind l refl is

-- the bytes from where the name begins are those of the record
same_from : (r : List ℕ) → IsChecked r → from_name (blanked r) ≡ from_name r
same_from r checked =
    let has = own_places r checked in
    let l = has.leaf in
    let is : Some l ≡ leaf_of (kind_of r) = sym has.kind in
    let blank_is : Some l ≡ leaf_of (kind_of (blanked r)) = is ∙ ap leaf_of (sym (blanked_kind r checked)) in
    from_is (blanked r) l blank_is ∙ same_from_by r l l.naming checked is (behind_told (kind_of r) l has.kind) ∙ sym (from_is r l is)

pub same_named : (r : List ℕ) → IsChecked r → name_of (blanked r) ≡ name_of r
same_named r checked = name_of_is (blanked r) ∙ ap name_first (same_from r checked) ∙ sym (name_of_is r)

pub same_name : (r : List ℕ) → IsChecked r → own_name (blanked r) ≡ own_name r
unfolding own_name
same_name r checked = ap name_text (same_named r checked)

same_told_name : (r : List ℕ) → IsChecked r → told_name (blanked r) ≡ told_name r
unfolding told_name
same_told_name r checked = ap (λ (from : Option (List ℕ)). name_text (option_map_or shown_name from None)) (same_from r checked)

one_place : (r : List ℕ) → (kind_of r ≡ 0x1001) ⊎ (kind_of r ≡ 0x1205) → places_of r ≡ 0 ∷ []
unfolding places_of leaf_of rest_places
one_place r (inl kind) = rw kind (ap (λ (ps : List ℕ). 0 ∷ ps) (no_places Nothing (body_of r) 0 0 (omega arith)))
one_place r (inr kind) = rw kind (ap (λ (ps : List ℕ). 0 ∷ ps) (no_places Nothing (body_of r) 0 0 (omega arith)))

no_place : (r : List ℕ) → kind_of r ≡ 0x000A → places_of r ≡ []
unfolding places_of leaf_of rest_places
no_place r kind = rw kind (no_places Nothing (body_of r) 0 0 (omega arith))

array_places : (r : List ℕ) → kind_of r ≡ 0x1503 → places_of r ≡ 0 ∷ 4 ∷ []
unfolding places_of leaf_of rest_places
array_places r kind = rw kind (ap (λ (ps : List ℕ). 0 ∷ 4 ∷ ps) (no_places Nothing (body_of r) 0 0 (omega arith)))

pointer_places : (r : List ℕ) → kind_of r ≡ 0x1002 → places_of r ≡ 0 ∷ (part_places Containing (body_of r) 4 ++ places_from Containing (body_of r) 8 (part_end Containing (body_of r) 4))
unfolding places_of leaf_of rest_places
pointer_places r kind = rw kind (ap (λ (ps : List ℕ). 0 ∷ ps) (places_here Containing (body_of r) 8 4 (omega arith)))

pointer_rest : (body : List ℕ) → (part_places Containing body 4 ++ places_from Containing body 8 (part_end Containing body 4) ≡ []) ⊎ (part_places Containing body 4 ++ places_from Containing body 8 (part_end Containing body 4) ≡ 8 ∷ [])
unfolding part_places part_end
pointer_rest body = elim (cases_Bool (points_to_member (number_at 4 body 4))) [
  | inl member ↦ inr (rw member (ap (λ (ps : List ℕ). 8 ∷ ps) (no_places Containing body 8 12 (omega arith))))
  | inr plain ↦ inl (rw plain (no_places Containing body 8 8 (omega arith)))
]

-- the attributes of a pointer are between its places
pointer_outside : (r : List ℕ) (k : ℕ) → kind_of r ≡ 0x1002 → k < 4 → Outside (4 + (4 + k)) (places_of r)
pointer_outside r k kind below = rw (pointer_places r kind) (
  inr (omega arith),
  elim (pointer_rest (body_of r)) [
    | inl none ↦ rw none tt
    | inr one ↦ rw one (inl (omega (arith, below)), tt)
  ],
)

pointer_same : (x y : List ℕ) → number_in 4 x 4 ≡ number_in 4 y 4 → pointer_words x ≡ pointer_words y
unfolding pointer_words
pointer_same x y same = rw same refl

modifier_same : (x y : List ℕ) → number_in 2 x 4 ≡ number_in 2 y 4 → modifier_words x ≡ modifier_words y
unfolding modifier_words
modifier_same x y same = rw same refl

bits_same : (x y : List ℕ) → number_in 1 x 4 ≡ number_in 1 y 4 → number_in 1 x 5 ≡ number_in 1 y 5 → bit_words x ≡ bit_words y
unfolding bit_words
bits_same x y a b = rw (a, b) refl

pub choose : {X : Type 0} (k n : ℕ) (a b c d : X) → (k ≡ n → a ≡ c) → b ≡ d → cond (k == n) a b ≡ cond (k == n) c d
choose k n a b c d here other = elim (cases_eq k n) [
  | inl same ↦ rw (eq-eqb k n same) (here same)
  | inr differ ↦ rw (ne_eqb k n differ) other
]

plain_same : (x y : List ℕ) → kind_of x ≡ kind_of y → (kind_of y ≡ 0x000A → number_in 2 (body_of x) 0 ≡ number_in 2 (body_of y) 0) → told_name x ≡ told_name y → plain_words x ≡ plain_words y
unfolding plain_words
plain_same x y kinds shape name =
    rw kinds
    (choose (kind_of y) 0x000A _ _ _ _ (λ kind. ap (λ (n : ℕ). codes "virtual table of " ++ decimal n) (shape kind))
    (choose (kind_of y) 0x000E _ _ _ _ (λ kind. refl)
    (choose (kind_of y) 0x1203 _ _ _ _ (λ kind. refl)
    (choose (kind_of y) 0x151D _ _ _ _ (λ kind. refl) name))))

told_same : (x y : List ℕ) (at : ℕ → List ℕ) → kind_of x ≡ kind_of y → places_of x ≡ places_of y
    → (kind_of y ≡ 0x1001 → modifier_words (body_of x) ≡ modifier_words (body_of y))
    → (kind_of y ≡ 0x1002 → number_in 4 (body_of x) 4 ≡ number_in 4 (body_of y) 4)
    → (kind_of y ≡ 0x1205 → bit_words (body_of x) ≡ bit_words (body_of y))
    → (kind_of y ≡ 0x1503 → numeric_text (body_of x) 8 ≡ numeric_text (body_of y) 8)
    → plain_words x ≡ plain_words y → told x at ≡ told y at
unfolding told
told_same x y at kinds places modifier pointer bits array plain =
    rw (kinds, places)
    (choose (kind_of y) 0x1001 _ _ _ _ (λ kind. ap (λ (xs : List ℕ). xs ++ at 0) (modifier kind))
    (choose (kind_of y) 0x1002 _ _ _ _ (λ kind. rw (pointer kind, pointer_same (body_of x) (body_of y) (pointer kind)) refl)
    (choose (kind_of y) 0x1008 _ _ _ _ (λ kind. refl)
    (choose (kind_of y) 0x1009 _ _ _ _ (λ kind. refl)
    (choose (kind_of y) 0x1201 _ _ _ _ (λ kind. refl)
    (choose (kind_of y) 0x1206 _ _ _ _ (λ kind. refl)
    (choose (kind_of y) 0x1205 _ _ _ _ (λ kind. ap (λ (xs : List ℕ). at 0 ++ xs) (bits kind))
    (choose (kind_of y) 0x1503 _ _ _ _ (λ kind. ap (λ (xs : List ℕ). codes "array of " ++ xs ++ codes " bytes of " ++ at 0) (array kind)) plain))))))))

-- a record and its blank are told in the same words
pub told_blank : (r : List ℕ) (at : ℕ → List ℕ) → IsChecked r → told (blanked r) at ≡ told r at
told_blank r at checked =
    let x = blanked r in
    let len = body_len x r (blanked_len r checked) in
    told_same x r at (blanked_kind r checked) (blanked_places r checked)
    (λ kind. modifier_same (body_of x) (body_of r) (two_same (body_of x) (body_of r) 4 len (λ k below. same_in_body r 4 k checked (rw (one_place r (inl kind)) (inr (omega arith), tt)))))
    (λ kind. four_same (body_of x) (body_of r) 4 len (λ k below. same_in_body r 4 k checked (pointer_outside r k kind below)))
    (λ kind. bits_same (body_of x) (body_of r)
    (one_same (body_of x) (body_of r) 4 len (same_in_body r 4 0 checked (rw (one_place r (inr kind)) (inr (omega arith), tt))))
    (one_same (body_of x) (body_of r) 5 len (same_in_body r 5 0 checked (rw (one_place r (inr kind)) (inr (omega arith), tt)))))
    (λ kind. numeric_same (body_of x) (body_of r) 8 len (same_rest r 8 checked (rw (array_places r kind) (omega arith, (omega arith, tt)))))
    (plain_same x r (blanked_kind r checked)
    (λ kind. two_same (body_of x) (body_of r) 0 len (λ k below. same_in_body r 0 k checked (rw (no_place r kind) tt)))
    (same_told_name r checked))
