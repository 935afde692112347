-- A member is told in the same words whatever its type indices are.
use Rattle.std.proofs.Common.{◌≡◌, ◌≤◌, ◌<◌, ◌+◌, ◌-◌, ◌*◌, ◌∙◌, ◌==◌, ℕ, zero, suc, Bool, true, false, List, [], ◌∷◌, ◌++◌, Some, length, map, take, drop, get_or, codes, refl, sym, ap, arith, inl, inr}
use Rattle.std.specs.Prelude.{◌||◌, nat_le, not}
use Rattle.std.specs.Option.{option_map_or}
use Rattle.std.proofs.lemmas.Bool.{cases_Bool, le-leb, leb-true}
use Rattle.std.proofs.lemmas.List.{append_assoc, get_or-take, get_or-drop, drop-drop, length-map}
use Rattle.byteorder.specs.Endian.{little_number}
use Rattle.byte_fields.specs.Number.{number_at}
use Rattle.cv_leaves.specs.Numeric.{numeric_len, has_numeric, numeric_end}
use Rattle.cv_leaves.specs.Member.{Member, members, member_of, member_places}
use Rattle.cv_leaves.specs.FieldList.{indices_of, IsWholeMember, DifferInIndices}
use Rattle.cv_leaves.proofs.TestLaws.{found_passes}
use Rattle.output_words.specs.Text.{quoted_name}
use Rattle.type_expressions.specs.Field.{number_in, numeric_text}
use Rattle.type_expressions.specs.Member.{member_kind, second_numeric, place_words, what_words, member_name, names_type, member_line}
use Rattle.type_expressions.proofs.BlankLaws.{two_same, four_same, numeric_same, name_same, named_same, choose}

-- ---- two members that differ in their indices

-- the first four bytes are the same
front_same : (m o : List ℕ) (i : ℕ) → DifferInIndices m o → i < 4 → get_or o i 0 ≡ get_or m i 0
front_same m o i d below = sym (get_or-take 4 o i 0 below) ∙ ap (λ (x : List ℕ). get_or x i 0) d.front ∙ get_or-take 4 m i 0 below

front_in : (m o : List ℕ) (j k : ℕ) → DifferInIndices m o → j + k < 4 → get_or (drop j o) k 0 ≡ get_or (drop j m) k 0
front_in m o j k d below = get_or-drop j o k 0 ∙ front_same m o (j + k) d below ∙ sym (get_or-drop j m k 0)

-- so is the number at their beginning
pub kind_at : (m o : List ℕ) → DifferInIndices m o → number_at 2 o 0 ≡ number_at 2 m 0
unfolding number_at
kind_at m o d = rw (front_in m o 0 0 d (omega arith), front_in m o 0 1 d (omega arith)) refl

pub kind_same : (m o : List ℕ) → DifferInIndices m o → member_kind o ≡ member_kind m
kind_same m o d = two_same o m 0 d.long (λ k below. front_in m o 0 k d (omega (arith, below)))

attributes_same : (m o : List ℕ) → DifferInIndices m o → number_in 2 o 2 ≡ number_in 2 m 2
attributes_same m o d = two_same o m 2 d.long (λ k below. front_in m o 2 k d (omega (arith, below)))

-- a kind that is not 0 is there
kind_there : (m : List ℕ) (kind : ℕ) → (kind ≡ 0 → ⊥) → member_kind m ≡ kind → number_at 2 m 0 ≡ kind
unfolding number_in
kind_there m kind some is = elim (cases_Bool (nat_le 2 (length m))) [
  | inl fits ↦ rw fits at is
  | inr short ↦ absurd (some (let none : 0 ≡ kind = rw short at is in sym none))
]

-- where the indices of a kind of member end
abbrev index_end : ℕ → ℕ
index_end kind = option_map_or (λ row. 4 + 4 * row.indices) (member_of kind) 0

-- what follows the indices is the same
rest_same : (m o : List ℕ) (kind s : ℕ) → DifferInIndices m o → (kind ≡ 0 → ⊥) → member_kind m ≡ kind → index_end kind ≤ s → drop s o ≡ drop s m
rest_same m o kind s d some is after =
    let end = 4 + 4 * d.member.indices in
    let row : index_end kind ≡ end = ap (λ (row : _). option_map_or (λ r. 4 + 4 * r.indices) row 0) (ap member_of (sym (kind_there m kind some is)) ∙ d.kind) in
    let further : s ≡ end + (s - end) = omega (arith, after, row) in
    ap (λ (n : ℕ). drop n o) further ∙ sym (drop-drop (s - end) end o) ∙ ap (λ (x : List ℕ). drop (s - end) x) d.back ∙ drop-drop (s - end) end m ∙ ap (λ (n : ℕ). drop n m) (sym further)

-- ---- what is told of them

numeric_kept : (m o : List ℕ) (kind s : ℕ) → DifferInIndices m o → (kind ≡ 0 → ⊥) → index_end kind ≤ s → member_kind m ≡ kind → numeric_text o s ≡ numeric_text m s
numeric_kept m o kind s d some after is = numeric_same o m s d.long (rest_same m o kind s d some is after)

introduced_same : (m o : List ℕ) → DifferInIndices m o → index_end 0x1511 ≤ 8 → member_kind m ≡ 0x1511 → number_in 4 o 8 ≡ number_in 4 m 8
introduced_same m o d after is = four_same o m 8 d.long (λ k below. ap (λ (x : List ℕ). get_or x k 0) (rest_same m o 0x1511 8 d (λ e. cc) is after))

place_same : (m o : List ℕ) → DifferInIndices m o → place_words o ≡ place_words m
unfolding place_words member_of
place_same m o d =
    rw (kind_same m o d, attributes_same m o d)
    (choose (member_kind m) 0x1400 _ _ _ _ (numeric_kept m o 0x1400 8 d (λ e. cc) (omega arith))
    (choose (member_kind m) 0x1401 _ _ _ _ (numeric_kept m o 0x1401 12 d (λ e. cc) (omega arith))
    (choose (member_kind m) 0x1402 _ _ _ _ (numeric_kept m o 0x1402 12 d (λ e. cc) (omega arith))
    (choose (member_kind m) 0x1502 _ _ _ _ (numeric_kept m o 0x1502 4 d (λ e. cc) (omega arith))
    (choose (member_kind m) 0x150D _ _ _ _ (numeric_kept m o 0x150D 8 d (λ e. cc) (omega arith))
    (choose (member_kind m) 0x151A _ _ _ _ (numeric_kept m o 0x151A 8 d (λ e. cc) (omega arith))
    (choose (member_kind m) 0x1511 _ _ _ _ (λ is. rw (introduced_same m o d (omega arith) is) refl) refl)))))))

second_same : (x y : List ℕ) → length x ≡ length y → drop 12 x ≡ drop 12 y → second_numeric x ≡ second_numeric y
unfolding second_numeric has_numeric numeric_end number_at
second_same x y len d =
    let n = numeric_len (little_number 2 (drop 12 y)) in
    let later : drop (12 + n) x ≡ drop (12 + n) y = sym (drop-drop n 12 x) ∙ ap (λ (xs : List ℕ). drop n xs) d ∙ drop-drop n 12 y in
    rw (len, d, numeric_same x y (12 + n) len later) refl

second_kept : (m o : List ℕ) (kind : ℕ) → DifferInIndices m o → (kind ≡ 0 → ⊥) → index_end kind ≤ 12 → member_kind m ≡ kind → second_numeric o ≡ second_numeric m
second_kept m o kind d some after is = second_same o m d.long (rest_same m o kind 12 d some is after)

what_same : (m o : List ℕ) → DifferInIndices m o → what_words o ≡ what_words m
unfolding what_words member_of
what_same m o d =
    rw (kind_same m o d, attributes_same m o d)
    (choose (member_kind m) 0x1400 _ _ _ _ (λ is. refl)
    (choose (member_kind m) 0x1401 _ _ _ _ (λ is. rw (second_kept m o 0x1401 d (λ e. cc) (omega arith) is) refl)
    (choose (member_kind m) 0x1402 _ _ _ _ (λ is. rw (second_kept m o 0x1402 d (λ e. cc) (omega arith) is) refl) refl)))

further_same : (x y : List ℕ) (s t : ℕ) → s ≤ t → drop s x ≡ drop s y → drop t x ≡ drop t y
further_same x y s t le d =
    let more : t ≡ s + (t - s) = omega (arith, le) in
    ap (λ (n : ℕ). drop n x) more ∙ sym (drop-drop (t - s) s x) ∙ ap (λ (xs : List ℕ). drop (t - s) xs) d ∙ drop-drop (t - s) s y ∙ ap (λ (n : ℕ). drop n y) (sym more)

member_name_same : (m o : List ℕ) → DifferInIndices m o → member_name o ≡ member_name m
unfolding member_name member_of
member_name_same m o d =
    rw (kind_same m o d, attributes_same m o d)
    (choose (member_kind m) 0x1502 _ _ _ _ (λ is. named_same o m 4 d.long (rest_same m o 0x1502 4 d (λ e. cc) is (omega arith)))
    (choose (member_kind m) 0x150D _ _ _ _ (λ is. named_same o m 8 d.long (rest_same m o 0x150D 8 d (λ e. cc) is (omega arith)))
    (choose (member_kind m) 0x150E _ _ _ _ (λ is. name_same o m 8 (rest_same m o 0x150E 8 d (λ e. cc) is (omega arith)))
    (choose (member_kind m) 0x150F _ _ _ _ (λ is. name_same o m 8 (rest_same m o 0x150F 8 d (λ e. cc) is (omega arith)))
    (choose (member_kind m) 0x1510 _ _ _ _ (λ is. name_same o m 8 (rest_same m o 0x1510 8 d (λ e. cc) is (omega arith)))
    (choose (member_kind m) 0x1511 _ _ _ _ (λ is.
    let eight = rest_same m o 0x1511 8 d (λ e. cc) is (omega arith) in
    rw (name_same o m 8 eight, name_same o m 12 (further_same o m 8 12 (omega arith) eight)) refl) refl))))))

-- two members that differ in their indices have the same line
pub line_same : (m o text : List ℕ) → DifferInIndices m o → member_line o text ≡ member_line m text
unfolding member_line
line_same m o text d = rw (place_same m o d, what_same m o d, member_name_same m o d, kind_same m o d) refl

-- and as many indices
pub many_same : (m o : List ℕ) → DifferInIndices m o → length (indices_of o) ≡ length (indices_of m)
unfolding indices_of member_places
many_same m o d = length-map (member_places o 0) (number_at 4 o) ∙ rw (kind_at m o d) refl ∙ sym (length-map (member_places m 0) (number_at 4 m))

-- ---- the type of a member

-- the first of some indices
first_of : (m : List ℕ) (n : ℕ) → (n ≡ 0 → ⊥) → (rest : List ℕ) × (map (number_at 4 m) (map (λ k. 0 + k) (take n (4 ∷ 8 ∷ []))) ≡ number_at 4 m 4 ∷ rest)
first_of m zero some = absurd (some refl)
first_of m (suc n) some = (map (number_at 4 m) (map (λ k. 0 + k) (take n (8 ∷ []))), refl)

abbrev has_index : ℕ → Member → Bool
has_index kind row = kind == 0x1502 || nat_le 1 row.indices

-- any member but an enumerator has an index
some_index : (kind : ℕ) (row : Member) → member_of kind ≡ Some row → not (kind == 0x1502) ≡ true → row.indices ≡ 0 → ⊥
unfolding member_of
some_index kind row is other none =
    let passes : has_index kind row ≡ true = found_passes has_index members kind row refl is in
    impossible (kind == 0x1502) row.indices other none passes
  where
    impossible : (b : Bool) (n : ℕ) → not b ≡ true → n ≡ 0 → (b || nat_le 1 n) ≡ true → ⊥
    impossible true n other none passes = cc
    impossible false n other none passes = omega (arith, leb-true 1 n passes, none)

-- the first index of a member is that of its type
pub type_index : (m : List ℕ) → IsWholeMember m → names_type m ≡ true → (rest : List ℕ) × (indices_of m ≡ number_in 4 m 4 ∷ rest)
unfolding indices_of member_places number_in
type_index m whole names =
    let kind_fits : nat_le 2 (length m) ≡ true = le-leb 2 (length m) (omega (arith, whole.long)) in
    let some = some_index (number_at 2 m 0) whole.member whole.kind (rw kind_fits at names) in
    let long : 8 ≤ length m = long_enough whole.member.indices (length m) some whole.long in
    let fits : nat_le 8 (length m) ≡ true = le-leb 8 (length m) long in
    rw (whole.kind, fits) (first_of m whole.member.indices some)
  where
    long_enough : (n len : ℕ) → (n ≡ 0 → ⊥) → 4 + 4 * n ≤ len → 8 ≤ len
    long_enough zero len some long = absurd (some refl)
    long_enough (suc n) len some long = omega (arith, long)

-- ---- texts one after the other

-- the line of a member that names a type
pub lined : (m text old a b c d e f : List ℕ) → a ≡ old ++ place_words m → b ≡ a ++ codes " " → c ≡ b ++ what_words m → d ≡ c ++ quoted_name (member_name m) → names_type m ≡ true → e ≡ d ++ codes " " → f ≡ e ++ text → f ≡ old ++ member_line m text
unfolding member_line
lined m text old a b c d e f p q s t is u v = rw (v, u, t, s, q, p, is) (simp append_assoc refl)
