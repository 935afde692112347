-- Map blocks, and the blocks between them.
use Rattle.std.proofs.Common.{◌≡◌, ◌⊎◌, ℕ, zero, suc, ◌+◌, ◌-◌, ◌*◌, ◌/◌, ◌%◌, ◌<◌, ◌≤◌, true, false, not, [], ◌∷◌, ◌++◌, length, map, refl, sym, ap, ◌∙◌, subst, arith, inl, inr}
use Rattle.std.specs.List.{range_with_len, filter}
use Rattle.std.proofs.lemmas.Nat.{div-mul-add, mod-mul-add, div-add-mod', mod_below}
use Rattle.std.proofs.lemmas.Bool.{cases_lt}
use Rattle.std.proofs.lemmas.Bool.Decides.{nat_tests}
use Rattle.std.proofs.lemmas.List.{map-id, append-nil}
use Rattle.std.proofs.lemmas.List.FromFn.{map-range_with_len_more, length-map-range_with_len}
use Rattle.std.proofs.lemmas.List.Elements.{filter-append}
use Rattle.msf_superblock.specs.BlockNumber.{is_map_block, nth_block, data_blocks}
use Rattle.msf_superblock.proofs.SizeLaws.{next_row}

-- the first data block of an interval
pub nth_first : (b q j : ℕ) → 3 < b → j ≡ q * (b - 2) → nth_block b j ≡ q * b
unfolding nth_block
nth_first b q j big e =
    let d : j / (b - 2) ≡ q = rw e (let z : q * (b - 2) ≡ q * (b - 2) + 0 = omega arith in rw z (div-mul-add q (b - 2) 0 (omega arith))) in
    let m : j % (b - 2) ≡ 0 = rw e (let z : q * (b - 2) ≡ q * (b - 2) + 0 = omega arith in rw z (mod-mul-add q (b - 2) 0 (omega arith))) in
    rw (d, m) (omega arith)

-- the data blocks after the two map blocks of an interval
pub nth_other : (b q r j : ℕ) → 3 < b → 0 < r → r < b - 2 → j ≡ q * (b - 2) + r → nth_block b j ≡ q * b + r + 2
unfolding nth_block
nth_other b q r j big pos lt e =
    let d : j / (b - 2) ≡ q = rw e (div-mul-add q (b - 2) r lt) in
    let m : j % (b - 2) ≡ r = rw e (mod-mul-add q (b - 2) r lt) in
    rw (d, m) (grind (arith, nat_tests))

-- a data block, by its position in its interval
data_at : (b q p : ℕ) → p < b → (p ≡ 0) ⊎ (2 < p) → is_map_block b (q * b + p) ≡ false
data_at b q p lt h = rw (mod-mul-add q b p lt) (grind (arith, nat_tests))

-- a map block, by its position in its interval
pub map_at : (b q p : ℕ) → p < b → (p ≡ 1) ⊎ (p ≡ 2) → is_map_block b (q * b + p) ≡ true
map_at b q p lt h = rw (mod-mul-add q b p lt) (grind (arith, nat_tests))

-- the interval of the j-th data block, and its position among the data blocks of this interval
split_at : (b j : ℕ) → 3 < b → (j ≡ j / (b - 2) * (b - 2) + j % (b - 2)) × (j % (b - 2) < b - 2)
split_at b j big = (omega (arith, div-add-mod' j (b - 2)), mod_below j (b - 2) (omega arith))

-- no data block is a map block
pub nth_is_data : (b j : ℕ) → 3 < b → is_map_block b (nth_block b j) ≡ false
nth_is_data b j big =
    let q = j / (b - 2) in
    let r = j % (b - 2) in
    let s = split_at b j big in
    elim (cases_lt 0 r) [
      | inl pos ↦
          let e : nth_block b j ≡ q * b + (r + 2) = nth_other b q r j big pos s.1 s.0 ∙ omega arith in
          rw e (data_at b q (r + 2) (omega (arith, s.1)) (inr (omega arith)))
      | inr none ↦
          let e : nth_block b j ≡ q * b + 0 = nth_first b q j big (omega (arith, s.0)) ∙ omega arith in
          rw e (data_at b q 0 (omega arith) (inl refl))
    ]

-- the next data block is the next block, or the third block after, where two map blocks are between them
abbrev pub Next : ℕ → ℕ → ℕ → Type 0
Next b a c = (c ≡ a + 1) ⊎ ((c ≡ a + 3) × (is_map_block b (a + 1) ≡ true) × (is_map_block b (a + 2) ≡ true))

pub next_nth : (b j : ℕ) → 3 < b → Next b (nth_block b j) (nth_block b (j + 1))
next_nth b j big =
    let q = j / (b - 2) in
    let r = j % (b - 2) in
    let s = split_at b j big in
    elim (cases_lt 0 r) [
      | inl pos ↦
          let e : nth_block b j ≡ q * b + r + 2 = nth_other b q r j big pos s.1 s.0 in
          elim (cases_lt (r + 1) (b - 2)) [
            | inl lt ↦
                let f : nth_block b (j + 1) ≡ q * b + (r + 1) + 2 = nth_other b q (r + 1) (j + 1) big (omega arith) lt (omega (arith, s.0)) in
                inl (omega (arith, e, f))
            | inr le ↦
                let g : j + 1 ≡ (q + 1) * (b - 2) = omega (arith, s.0, s.1, next_row q (b - 2)) in
                let f : nth_block b (j + 1) ≡ (q + 1) * b = nth_first b (q + 1) (j + 1) big g in
                inl (omega (arith, e, f, s.1, next_row q b))
          ]
      | inr none ↦
          let e : nth_block b j ≡ q * b = nth_first b q j big (omega (arith, s.0)) in
          let f : nth_block b (j + 1) ≡ q * b + 1 + 2 = nth_other b q 1 (j + 1) big (omega arith) (omega arith) (omega (arith, s.0)) in
          rw e (inr (omega (arith, f), map_at b q 1 (omega arith) (inl refl), map_at b q 2 (omega arith) (inr refl)))
    ]

-- one more number
pub range_more : (n : ℕ) → range_with_len 0 (n + 1) ≡ range_with_len 0 n ++ n ∷ []
range_more n = sym (map-id (range_with_len 0 (n + 1))) ∙ map-range_with_len_more (λ x. x) 0 n n (omega arith) ∙ rw (map-id (range_with_len 0 n)) refl

-- a data block adds itself to the list
pub data_more : (b n : ℕ) → is_map_block b n ≡ false → data_blocks b (n + 1) ≡ data_blocks b n ++ n ∷ []
unfolding data_blocks
data_more b n e =
    let f = λ (k : ℕ). not (is_map_block b k) in
    ap (filter f) (range_more n) ∙ filter-append f (range_with_len 0 n) (n ∷ []) ∙ rw e refl

-- a map block adds nothing to the list
pub data_same : (b n : ℕ) → is_map_block b n ≡ true → data_blocks b (n + 1) ≡ data_blocks b n
unfolding data_blocks
data_same b n e =
    let f = λ (k : ℕ). not (is_map_block b k) in
    ap (filter f) (range_more n) ∙ filter-append f (range_with_len 0 n) (n ∷ []) ∙ rw e (append-nil (data_blocks b n))

-- the step to the next data block
below_more : (b j : ℕ) → 3 < b → data_blocks b (nth_block b j) ≡ map (nth_block b) (range_with_len 0 j) → data_blocks b (nth_block b (j + 1)) ≡ map (nth_block b) (range_with_len 0 (j + 1))
below_more b j big before =
    let a = nth_block b j in
    let here : data_blocks b (a + 1) ≡ map (nth_block b) (range_with_len 0 (j + 1)) =
    data_more b a (nth_is_data b j big) ∙ rw before (sym (map-range_with_len_more (nth_block b) 0 j j (omega arith))) in
    elim (next_nth b j big) [
      | inl one ↦ rw one here
      | inr over ↦
          let e : nth_block b (j + 1) ≡ a + 1 + 1 + 1 = omega (arith, over.0) in
          let two : a + 2 ≡ a + 1 + 1 = omega arith in
          rw e (data_same b (a + 1 + 1) (rw two at over.2) ∙ data_same b (a + 1) over.1 ∙ here)
    ]

-- the data blocks below the j-th are the first j data blocks
pub data_below : (b j : ℕ) → 3 < b → data_blocks b (nth_block b j) ≡ map (nth_block b) (range_with_len 0 j)
unfolding data_blocks
data_below b zero big =
    let e : nth_block b 0 ≡ 0 = nth_first b 0 0 big (omega arith) ∙ omega arith in
    rw e refl
data_below b (suc j) big =
    let one : j + 1 ≡ suc j = omega arith in
    subst (λ (m : ℕ). data_blocks b (nth_block b m) ≡ map (nth_block b) (range_with_len 0 m)) one (below_more b j big (data_below b j big))

-- there are j of them
pub rank_is : (b j : ℕ) → 3 < b → length (data_blocks b (nth_block b j)) ≡ j
rank_is b j big = ap length (data_below b j big) ∙ length-map-range_with_len (nth_block b) 0 j

-- ---- the numbers of data blocks rise

nth_next : (b j : ℕ) → 3 < b → nth_block b j < nth_block b (j + 1)
nth_next b j big = elim (next_nth b j big) [ inl one ↦ omega (arith, one) | inr over ↦ omega (arith, over.0) ]

nth_rises : (b i k : ℕ) → 3 < b → nth_block b i + k ≤ nth_block b (i + k)
nth_rises b i zero big = let e : i + 0 ≡ i = omega arith in rw e (omega arith)
nth_rises b i (suc k) big = let e : i + suc k ≡ i + k + 1 = omega arith in rw e (omega (arith, nth_rises b i k big, nth_next b (i + k) big))

-- a later data block has a greater number
pub nth_monotone : (b i j : ℕ) → 3 < b → i < j → nth_block b i < nth_block b j
nth_monotone b i j big lt = let e : j ≡ i + (j - i) = omega arith in rw e (omega (arith, nth_rises b i (j - i) big))

-- the first data block is block 0, which has the superblock
pub nth_zero : (b : ℕ) → 3 < b → nth_block b 0 ≡ 0
nth_zero b big = nth_first b 0 0 big (omega arith) ∙ omega arith

-- at least j blocks come before the j-th data block
pub nth_ge : (b j : ℕ) → 3 < b → j ≤ nth_block b j
nth_ge b j big = let e : j ≡ 0 + j = omega arith in rw e (omega (arith, nth_rises b 0 j big))

-- the number of the j-th data block is at most three times j
pub nth_few : (b j : ℕ) → 3 < b → nth_block b j ≤ 3 * j
nth_few b zero big = omega (arith, nth_zero b big)
nth_few b (suc j) big =
    let one : suc j ≡ j + 1 = omega arith in
    elim (next_nth b j big) [
      | inl next ↦ rw one (omega (arith, next, nth_few b j big))
      | inr over ↦ rw one (omega (arith, over.0, nth_few b j big))
    ]

-- each block that is not a map block is the j-th data block for some j
pub nth_onto : (b k : ℕ) → 3 < b → is_map_block b k ≡ false → (j : ℕ) × (nth_block b j ≡ k)
nth_onto b k big e =
    let q = k / b in
    let p = k % b in
    let whole : k ≡ q * b + p = omega (arith, div-add-mod' k b) in
    let lt : p < b = mod_below k b (omega arith) in
    elim (cases_lt 0 p) [
      | inl pos ↦
          let high : 2 < p = grind (arith, nat_tests) in
          (q * (b - 2) + (p - 2), nth_other b q (p - 2) (q * (b - 2) + (p - 2)) big (omega arith) (omega arith) refl ∙ omega arith)
      | inr none ↦ (q * (b - 2), nth_first b q (q * (b - 2)) big refl ∙ omega arith)
    ]
