-- What the head of a row says of its bytes.
use Rattle.std.proofs.Common.{◌≡◌, ℕ, zero, suc, ◌+◌, ◌*◌, ◌^◌, ◌<◌, ◌≤◌, List, [], ◌∷◌, drop, get_or, refl, sym, ap, ◌∙◌, arith, inl, inr}
use Rattle.std.proofs.Math.Nat.{mul-le-mul_right, one-le-pow, pow-succ', suc-add, zero-add}
use Rattle.std.proofs.lemmas.Nat.{pow-add}
use Rattle.std.proofs.lemmas.Bool.{cases_order}
use Rattle.std.proofs.lemmas.Cmp.{tied_itself, nat_cmp_total}
use Rattle.std.specs.Cmp.{nat_cmp_is}
use Rattle.std.specs.Cmp.Lexicographic.{slice_cmp}
use Rattle.std.specs.Ordering.{nat_cmp}
use Rattle.std.specs.declared.cmp.Ordering.TheVariants.{Less, Equal}
use Rattle.byte_fields.specs.Bytes.{AreBytes}
use Rattle.canonical_list.specs.Rows.{first_bytes, head}

-- ---- Heads as they are read

-- the first byte from place i on, and what comes after it
first_bytes-at : (i n : ℕ) (x : List ℕ) → first_bytes (suc n) (drop i x) ≡ get_or x i 0 * 256 ^ n + first_bytes n (drop (suc i) x)
unfolding first_bytes
first_bytes-at zero n [] = omega arith
first_bytes-at (suc i) n [] = omega arith
first_bytes-at zero n (b ∷ x) = refl
first_bytes-at (suc i) n (b ∷ x) = first_bytes-at i n x

-- no bytes make 0
pub none_left : (x : List ℕ) → first_bytes 0 x ≡ 0
unfolding first_bytes
none_left [] = refl
none_left (b ∷ x) = refl

-- the number of n bytes from place i on is that of other bytes which are the same there
first_bytes-same : (n i : ℕ) (x y : List ℕ) → ((k : ℕ) → k < i + n → get_or x k 0 ≡ get_or y k 0) → first_bytes n (drop i x) ≡ first_bytes n (drop i y)
first_bytes-same zero i x y same = none_left (drop i x) ∙ sym (none_left (drop i y))
first_bytes-same (suc n) i x y same =
    let rest : first_bytes n (drop (suc i) x) ≡ first_bytes n (drop (suc i) y) = first_bytes-same n (suc i) x y (λ k inside. same k (omega (arith, inside))) in
    first_bytes-at i n x ∙ ap (λ (b : ℕ). b * 256 ^ n + first_bytes n (drop (suc i) x)) (same i (omega arith)) ∙ ap (λ (m : ℕ). get_or y i 0 * 256 ^ n + m) rest ∙ sym (first_bytes-at i n y)

-- the head of a row at an offset is that of 8 bytes that are the same from there on
pub head_same : (first x : List ℕ) (from : ℕ) → ((i : ℕ) → i < 8 → get_or first i 0 ≡ get_or (drop from x) i 0) → head 0 first ≡ head from x
unfolding head
head_same first x from same = first_bytes-same 8 0 first (drop from x) (λ k inside. same k (omega (arith, inside)))

-- the head is the number of the first 8 bytes
pub head_is : (x : List ℕ)
    → head 0 x ≡ get_or x 0 0 * 256 ^ 7 + get_or x 1 0 * 256 ^ 6 + get_or x 2 0 * 256 ^ 5 + get_or x 3 0 * 256 ^ 4 + get_or x 4 0 * 256 ^ 3 + get_or x 5 0 * 256 ^ 2 + get_or x 6 0 * 256 + get_or x 7 0
unfolding head
head_is x = omega (
  arith,
  first_bytes-at 0 7 x,
  first_bytes-at 1 6 x,
  first_bytes-at 2 5 x,
  first_bytes-at 3 4 x,
  first_bytes-at 4 3 x,
  first_bytes-at 5 2 x,
  first_bytes-at 6 1 x,
  first_bytes-at 7 0 x,
  none_left (drop 8 x),
)

-- ---- The order of heads

-- the first n bytes make a number of n bytes
first_bytes-below : (n : ℕ) (x : List ℕ) → AreBytes x → first_bytes n x < 256 ^ n
unfolding first_bytes
first_bytes-below n [] bytes = omega (arith, one-le-pow n 256 (omega arith))
first_bytes-below zero (b ∷ x) bytes = omega arith
first_bytes-below (suc n) (b ∷ x) bytes =
    let rest = first_bytes-below n x (λ i. bytes (suc i)) in
    let top : b * 256 ^ n ≤ 255 * 256 ^ n = mul-le-mul_right (256 ^ n) (omega (arith, bytes 0)) in
    rw (pow-succ' 256 n) (omega (arith, rest, top))

-- x comes before y if its first n bytes make a lower number
pub first_bytes-less : (n : ℕ) (x y : List ℕ) → AreBytes y → first_bytes n x < first_bytes n y → slice_cmp nat_cmp x y ≡ Less
unfolding first_bytes
first_bytes-less n x [] bytes less = absurd (omega arith)
first_bytes-less n [] (c ∷ y) bytes less = refl
first_bytes-less zero (b ∷ x) (c ∷ y) bytes less = absurd (omega arith)
first_bytes-less (suc n) (b ∷ x) (c ∷ y) bytes less = elim (cases_order b c) [
  | inl same ↦
      let tied : nat_cmp b c ≡ Equal = rw same (tied_itself nat_cmp_total c) in
      rw tied (first_bytes-less n x y (λ i. bytes (suc i)) (omega (arith, less, ap (λ (k : ℕ). k * 256 ^ n) same)))
  | inr w ↦ elim w [
    | inl lower ↦ let e : Less ≡ nat_cmp b c = nat_cmp_is b c Less lower in rw (← e) refl
    | inr higher ↦
        let below = first_bytes-below n y (λ i. bytes (suc i)) in
        let far : (c + 1) * 256 ^ n ≤ b * 256 ^ n = mul-le-mul_right (256 ^ n) (omega (arith, higher)) in
        absurd (omega (arith, less, below, far))
  ]
]

-- n bytes and the m bytes after them
first_bytes-more : (n m : ℕ) (x : List ℕ) → first_bytes (n + m) x ≡ first_bytes n x * 256 ^ m + first_bytes m (drop n x)
unfolding first_bytes
first_bytes-more zero m x = rw (zero-add, none_left x) (omega arith)
first_bytes-more (suc n) m [] = omega arith
first_bytes-more (suc n) m (b ∷ x) = rw (suc-add, pow-add) (omega (arith, first_bytes-more n m x))

-- the head at an offset is the 8 bytes after those before it
pub first_bytes-next : (from : ℕ) (x : List ℕ) → first_bytes (from + 8) x ≡ first_bytes from x * 256 ^ 8 + head from x
unfolding head
first_bytes-next from x = first_bytes-more from 8 x
