-- Lists that are made of bytes, and their parts.
use Rattle.std.proofs.Common.{ℕ, zero, suc, ◌+◌, ◌-◌, ◌≤◌, List, [], ◌∷◌, ◌++◌, length, take, drop, reverse, arith, inl, inr}
use Rattle.std.specs.List.{AllByRecursion, concat}
use Rattle.std.proofs.Math.ListN.{get_or-eq_default}
use Rattle.std.proofs.lemmas.Bool.{cases_lt}
use Rattle.std.proofs.lemmas.List.{get_or-drop, get_or-reverse, length-reverse}
use Rattle.byte_fields.specs.Bytes.{AreBytes}
use Rattle.byte_fields.specs.Number.{four_bytes, u32s}

-- two lists of bytes, one after the other, are made of bytes
pub bytes_append : (x y : List ℕ) → AreBytes x → AreBytes y → AreBytes (x ++ y)
bytes_append [] y first second i = second i
bytes_append (b ∷ x) y first second zero = first 0
bytes_append (b ∷ x) y first second (suc i) = bytes_append x y (λ k. first (suc k)) second i

-- the first of two lists is made of bytes
pub bytes_first : (x y : List ℕ) → AreBytes (x ++ y) → AreBytes x
bytes_first [] y bytes i = omega arith
bytes_first (b ∷ x) y bytes zero = bytes 0
bytes_first (b ∷ x) y bytes (suc i) = bytes_first x y (λ k. bytes (suc k)) i

-- the second of two lists is made of bytes
pub bytes_second : (x y : List ℕ) → AreBytes (x ++ y) → AreBytes y
bytes_second [] y bytes = bytes
bytes_second (b ∷ x) y bytes = bytes_second x y (λ k. bytes (suc k))

-- the front of a list is made of bytes
pub bytes_take : (n : ℕ) (x : List ℕ) → AreBytes x → AreBytes (take n x)
bytes_take zero x bytes i = omega arith
bytes_take (suc n) [] bytes i = omega arith
bytes_take (suc n) (b ∷ x) bytes zero = bytes 0
bytes_take (suc n) (b ∷ x) bytes (suc i) = bytes_take n x (λ k. bytes (suc k)) i

-- the rest of a list is made of bytes
pub bytes_drop : (n : ℕ) (x : List ℕ) → AreBytes x → AreBytes (drop n x)
bytes_drop n x bytes i = rw (get_or-drop n x i 0) (bytes (n + i))

-- a reversed list is made of bytes
pub bytes_reverse : (x : List ℕ) → AreBytes x → AreBytes (reverse x)
bytes_reverse x bytes i = elim (cases_lt i (length x)) [
  | inl lt ↦ rw (get_or-reverse x i 0 lt) (bytes (length x - 1 - i))
  | inr ge ↦
      let past : length (reverse x) ≤ i = omega (arith, ge, length-reverse x) in
      rw (get_or-eq_default (reverse x) 0 past) (omega arith)
]

-- several lists of bytes, one after the other, are made of bytes
pub bytes_concat : (xs : List (List ℕ)) → AllByRecursion AreBytes xs → AreBytes (concat xs)
bytes_concat [] each = λ i. omega arith
bytes_concat (x ∷ xs) each = bytes_append x (concat xs) each.0 (bytes_concat xs each.1)

-- each of several lists is made of bytes
pub bytes_each : (xs : List (List ℕ)) → AreBytes (concat xs) → AllByRecursion AreBytes xs
bytes_each [] bytes = tt
bytes_each (x ∷ xs) bytes = (bytes_first x (concat xs) bytes, bytes_each xs (bytes_second x (concat xs) bytes))

-- the four bytes of a number are bytes
pub four_are_bytes : (n : ℕ) → AreBytes (four_bytes n)
unfolding four_bytes
four_are_bytes n zero = omega arith
four_are_bytes n (suc zero) = omega arith
four_are_bytes n (suc (suc zero)) = omega arith
four_are_bytes n (suc (suc (suc zero))) = omega arith
four_are_bytes n (suc (suc (suc (suc i)))) = omega arith

-- the bytes of several numbers are bytes
pub u32s_are_bytes : (numbers : List ℕ) → AreBytes (u32s numbers)
u32s_are_bytes [] = λ i. omega arith
u32s_are_bytes (n ∷ numbers) = bytes_append (four_bytes n) (u32s numbers) (four_are_bytes n) (u32s_are_bytes numbers)
