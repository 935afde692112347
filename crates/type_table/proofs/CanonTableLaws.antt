-- A canonical list is a table.
use Rattle.std.proofs.Common.{◌≡◌, ◌≢◌, ◌≤◌, ◌<◌, ◌^◌, ◌+◌, ◌↔◌, ℕ, zero, suc, Some, List, [], ◌∷◌, ◌++◌, length, take, drop, get_or, refl, sym, ap, ◌∙◌, arith, inl, inr, length-append}
use Rattle.std.specs.Prelude.{slice_get}
use Rattle.std.proofs.lemmas.Bool.{cases_lt}
use Rattle.std.proofs.lemmas.List.{take_more, get_or-take, length-take-le, get_or_append_left, get_or-append-add, get_or-map, length-map}
use Rattle.std.specs.List.{All, AllPairs, concat}
use Rattle.packed_texts.specs.PackedTexts.{texts_at}
use Rattle.text_set.specs.TextSet.{Holds}
use Rattle.type_trees.specs.Tree.{Tree, nothing, IsType}
use Rattle.type_trees.specs.Canon.{text, texts, Canonical}
use Rattle.byte_fields.specs.Bytes.{AreBytes}
use Rattle.type_trees.specs.Table.{IsTable}
use Rattle.canonical_list.specs.Finish.{IsCanon, IsCanonOf}
use Rattle.type_table.proofs.AddLaws.{starts_same}
use Rattle.canonical_list.proofs.FinishLaws.{nothing_listed}
use Rattle.type_trees.proofs.ReadLaws.{few, holds, canonical_reads_back}
use Rattle.type_trees.proofs.TextLaws.{texts_differ}
use Rattle.type_trees.proofs.WeightLaws.{weight_of_texts}

pub no_canon : IsCanon []
no_canon = record { trees = []; canonical = nothing_listed.0; are = refl; table = nothing_listed.3 }

-- a position below the length has a text
pub there : (xs : List (List ℕ)) (k : ℕ) → k < length xs → slice_get xs k ≡ Some (get_or xs k [])
there [] k inside = absurd (omega (arith, inside))
there (x ∷ xs) zero inside = refl
there (x ∷ xs) (suc k) inside = there xs k (omega (arith, inside))

-- a canonical list has fewer than 2^32 bytes
pub canon_short : (records : List (List ℕ)) → IsCanon records → length (concat records) < 2 ^ 32
canon_short records c = omega (arith, ap (λ (x : List (List ℕ)). length (concat x)) c.are, weight_of_texts c.trees c.canonical, c.canonical.light)

-- each text is made of bytes if all texts together are
pub bytes_each : (xs : List (List ℕ)) → AreBytes (concat xs) → (i : ℕ) → i < length xs → AreBytes (get_or xs i [])
bytes_each [] bytes i inside = absurd (omega (arith, inside))
bytes_each (x ∷ xs) bytes zero inside = λ k. elim (cases_lt k (length x)) [
  | inl low ↦ rw (← get_or_append_left x (concat xs) 0 k low) (bytes k)
  | inr high ↦ rw (past x k high) (omega arith)
]
  where
    past : (y : List ℕ) (k : ℕ) → length y ≤ k → get_or y k 0 ≡ 0
    past [] k le = refl
    past (b ∷ y) zero le = absurd (omega (arith, le))
    past (b ∷ y) (suc k) le = past y k (omega (arith, le))
bytes_each (x ∷ xs) bytes (suc i) inside = bytes_each xs (λ k. rw (← get_or-append-add x (concat xs) k 0) (bytes (length x + k))) i (omega (arith, inside))

-- in any order
ordered_bytes : (xs : List (List ℕ)) (order : List ℕ) → All (λ p. p < length xs) order → AreBytes (concat xs) → (i : ℕ) → i < length (texts_at xs order) → AreBytes (get_or (texts_at xs order) i [])
ordered_bytes xs order inside bytes i i_in =
    let k_in : i < length order = omega (arith, i_in, length-map order (λ p. get_or xs p [])) in
    rw (get_or-map (λ p. get_or xs p []) order i 0 [] k_in) (bytes_each xs bytes (get_or order i 0) (inside i 0 k_in))

-- no two texts of a canonical list are equal
distinct_texts : (l : List Tree) → Canonical l → AllPairs (λ x y. x ≢ y) (texts l)
distinct_texts l c i j d less j_in e =
    let many : length (texts l) ≡ length l = length-map l (text l) in
    let i_l : i < length l = omega (arith, less, j_in, many) in
    let j_l : j < length l = omega (arith, j_in, many) in
    let same : text l (get_or l i nothing) ≡ text l (get_or l j nothing) = sym (get_or-map (text l) l i nothing d i_l) ∙ e ∙ get_or-map (text l) l j nothing d j_l in
    c.distinct i j nothing less j_l (texts_differ l (get_or l i nothing) (get_or l j nothing) (few l c) (c.closed i i_l) (c.closed j j_l) (holds l c i i_l) (holds l c j j_l) same)

-- the canonical list of a table's types is a table
pub canon_of_table : (r now : List (List ℕ)) (order : List ℕ) → IsTable r → IsCanonOf (texts_at now order) (IsType r) → All (λ p. p < length now) order → AreBytes (concat now) → IsCanon (texts_at now order)
canon_of_table r now order table c inside bytes =
    let l : List Tree = c.0 in
    let back = canonical_reads_back l c.1 in
    record {
      trees = l;
      canonical = c.1;
      are = c.2;
      table = rw c.2 (record {
        good = back.good;
        bytes = λ i i_in. rw (← ap (λ (x : List (List ℕ)). get_or x i []) c.2) (ordered_bytes now order inside bytes i (omega (arith, i_in, ap length c.2)));
        lower = back.lower;
        distinct = distinct_texts l c.1;
      });
    }

-- ---- The table of a canonical list

-- the table has space for the next text
pub next_fits : (r : List (List ℕ)) (k : ℕ) → length (concat r) < 2 ^ 32 → k < length r → length (concat (take k r)) + length (get_or r k []) < 2 ^ 33
next_fits r k short inside = omega (arith, short, part r k inside)
  where
    part : (xs : List (List ℕ)) (n : ℕ) → n < length xs → length (concat (take n xs)) + length (get_or xs n []) ≤ length (concat xs)
    part [] n inside = absurd (omega (arith, inside))
    part (x ∷ xs) zero inside = omega (arith, length-append x (concat xs))
    part (x ∷ xs) (suc n) inside = omega (arith, length-append x (concat xs), length-append x (concat (take n xs)), part xs n (omega (arith, inside)))

-- the first texts of a list are the whole list when there are as many
-- one record more of the list is in the set
pub taken_more : (canon before after : List (List ℕ)) (k j : ℕ) → IsTable canon → before ≡ take k canon → k < length canon → Holds before after (get_or canon k []) → j < length after → get_or after j [] ≡ get_or canon k [] → after ≡ take (k + 1) canon
taken_more canon before after k j table is inside put j_in at = elim put [
  | inl same ↦
      let long : length before ≡ k = ap length is ∙ length-take-le k canon (omega (arith, inside)) in
      let below : j < k = omega (arith, j_in, ap length same, long) in
      let old : get_or canon j [] ≡ get_or canon k [] = sym (get_or-take k canon j [] below) ∙ ap (λ (xs : List (List ℕ)). get_or xs j []) (sym is ∙ sym same) ∙ at in
      absurd (table.distinct j k [] below inside old)
  | inr more ↦ more.0 ∙ ap (λ (xs : List (List ℕ)). xs ++ get_or canon k [] ∷ []) is ∙ sym (take_more canon k [] inside)
]

pub whole_taken : (r first : List (List ℕ)) (k : ℕ) → first ≡ take k r → k ≡ length r → first ≡ r
whole_taken r first k is all = is ∙ ap (λ (n : ℕ). take n r) all ∙ (starts_same r).1

-- a canonical list stays one when its types are described by an equal condition
pub canon_same : (out : List (List ℕ)) (P Q : Tree → Type 0) → IsCanonOf out P → ((t : Tree) → P t ↔ Q t) → IsCanonOf out Q
canon_same out P Q c same = (c.0, c.1, c.2, λ t. (λ h. (same t).0 ((c.3 t).0 h), λ h. (c.3 t).1 ((same t).1 h)))

-- ---- what is left of a list

pub drop_first : (xs : List (List ℕ)) (i : ℕ) (r : List ℕ) → Some r ≡ slice_get xs i → drop i xs ≡ r ∷ drop (i + 1) xs
drop_first [] i r there = absurd cc
drop_first (x ∷ xs) zero r there = let same : r ≡ x = cc in ap (λ (y : List ℕ). y ∷ xs) (sym same)
drop_first (x ∷ xs) (suc i) r there = let one : suc i + 1 ≡ suc (i + 1) = omega arith in rw one (drop_first xs i r there)
