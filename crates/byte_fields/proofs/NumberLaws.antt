-- Numbers in parts of a list of bytes, and bytes that are made of numbers.
use Rattle.std.proofs.Common.{◌≡◌, ℕ, zero, suc, ◌+◌, ◌*◌, ◌<◌, ◌≤◌, ◌^◌, List, [], ◌∷◌, ◌++◌, length, map, take, drop, get_or, refl, sym, ap, ◌∙◌, arith, append_assoc, inl, inr}
use Rattle.std.proofs.lemmas.List.{get_or-drop, get_or-take, get_or_past, length-append, length-take, length-drop, drop-drop, drop_at, take-append-drop, take-take, drop-take}
use Rattle.std.proofs.lemmas.Bool.{cases_lt}
use Rattle.std.proofs.lemmas.Nat.{le_bytes_4}
use Rattle.std.specs.List.{range_with_len}
use Rattle.std.proofs.Math.Seq.{take-append_seam}
use Rattle.byteorder.specs.Endian.{little_number}
use Rattle.byteorder.specs.Numbers.{little_from-take}
use Rattle.byte_fields.specs.Number.{number_at, four_bytes, u32s, nth_u32}

-- ---- a number in a part of the bytes

-- the number at an offset is the first number of the bytes from this offset on
pub number_at-drop : (count : ℕ) (bytes : List ℕ) (offset : ℕ) → number_at count (drop offset bytes) 0 ≡ number_at count bytes offset
unfolding number_at
number_at-drop count bytes offset = refl

-- a number in bytes that are cut off after it
pub number_at-take : (count : ℕ) (bytes : List ℕ) (offset len : ℕ) → count ≤ len → number_at count (take len (drop offset bytes)) 0 ≡ number_at count bytes offset
unfolding number_at
number_at-take count bytes offset len long = little_from-take 0 count len (drop offset bytes) (omega arith)

-- bytes after a number do not change it
pub number_at-append : (count : ℕ) (front back : List ℕ) → count ≤ length front → number_at count (front ++ back) 0 ≡ number_at count front 0
unfolding number_at
number_at-append count front back long =
    sym (little_from-take 0 count (length front) (front ++ back) (omega arith)) ∙ ap (λ (xs : List ℕ). little_number count xs) (take-append_seam front back)

-- ---- bytes that are made of four-byte numbers

-- the bytes of a number are the bytes that it was read from
pub four_bytes-number_at : (bytes : List ℕ) (offset : ℕ) → ((i : ℕ) → get_or bytes i 0 < 256) → offset + 4 ≤ length bytes → four_bytes (number_at 4 bytes offset) ≡ take 4 (drop offset bytes)
unfolding number_at four_bytes
four_bytes-number_at bytes offset each long =
    let t = take 4 (drop offset bytes) in
    let fits : (i : ℕ) → get_or t i 0 < 256 = λ i. elim (cases_lt i 4) [
      | inl lt ↦ rw (get_or-take 4 (drop offset bytes) i 0 lt, get_or-drop offset bytes i 0) (each (offset + i))
      | inr le ↦ rw (get_or_past t i 0 (omega (arith, length-take 4 (drop offset bytes)))) (omega arith)
    ] in
    let b0 = get_or-take 4 (drop offset bytes) 0 0 (omega arith) in
    let b1 = get_or-take 4 (drop offset bytes) 1 0 (omega arith) in
    let b2 = get_or-take 4 (drop offset bytes) 2 0 (omega arith) in
    let b3 = get_or-take 4 (drop offset bytes) 3 0 (omega arith) in
    le_bytes_4 t _ (omega (arith, length-take 4 (drop offset bytes), length-drop offset bytes)) fits (omega (arith, b0, b1, b2, b3))

take-plus : (text : List ℕ) (m n : ℕ) → take (m + n) text ≡ take m text ++ take n (drop m text)
take-plus text m n =
    let a : take m (take (m + n) text) ≡ take m text = take-take m (m + n) text (omega arith) in
    sym (take-append-drop m (take (m + n) text)) ∙ rw (a, drop-take m n text) refl

-- numbers that are read from some bytes, and written again, are the same bytes
pub u32s-nth_u32 : (text : List ℕ) (start count : ℕ) → ((i : ℕ) → get_or text i 0 < 256) → 4 * (start + count) ≤ length text → u32s (map (nth_u32 text) (range_with_len start count)) ≡ take (4 * count) (drop (4 * start) text)
unfolding nth_u32
u32s-nth_u32 text start zero bytes long = refl
u32s-nth_u32 text start (suc count) bytes long =
    let first : four_bytes (number_at 4 text (4 * start)) ≡ take 4 (drop (4 * start) text) = four_bytes-number_at text (4 * start) bytes (omega arith) in
    let others = u32s-nth_u32 text (start + 1) count bytes (omega arith) in
    let here : drop 4 (drop (4 * start) text) ≡ drop (4 * (start + 1)) text = let e : 4 * start + 4 ≡ 4 * (start + 1) = omega arith in drop-drop 4 (4 * start) text ∙ ap (λ (n : ℕ). drop n text) e in
    let all : 4 * suc count ≡ 4 + 4 * count = omega arith in
    rw (first, others, all) (rw (take-plus (drop (4 * start) text) 4 (4 * count), here) refl)

pub length-four_bytes : (n : ℕ) → length (four_bytes n) ≡ 4
unfolding four_bytes
length-four_bytes n = refl

pub length-u32s : (numbers : List ℕ) → length (u32s numbers) ≡ 4 * length numbers
length-u32s [] = omega arith
length-u32s (n ∷ numbers) = length-append (four_bytes n) (u32s numbers) ∙ rw (length-four_bytes n, length-u32s numbers) (omega arith)

first_number : (n : ℕ) (rest : List ℕ) → n < 2 ^ 32 → little_number 4 (four_bytes n ++ rest) ≡ n
unfolding four_bytes
first_number n rest small = omega arith

-- a number that was written reads back
pub nth_u32-u32s : (numbers rest : List ℕ) (k : ℕ) → k < length numbers → get_or numbers k 0 < 2 ^ 32 → nth_u32 (u32s numbers ++ rest) k ≡ get_or numbers k 0
unfolding nth_u32 number_at
nth_u32-u32s [] rest k lt small = absurd (omega arith)
nth_u32-u32s (n ∷ numbers) rest zero lt small = rw (append_assoc (four_bytes n) (u32s numbers) rest) (first_number n (u32s numbers ++ rest) small)
nth_u32-u32s (n ∷ numbers) rest (suc k) lt small =
    let e : 4 * suc k ≡ 4 + 4 * k = omega arith in
    let cut : drop (4 + 4 * k) (four_bytes n ++ (u32s numbers ++ rest)) ≡ drop (4 * k) (u32s numbers ++ rest) =
    sym (drop-drop (4 * k) 4 (four_bytes n ++ (u32s numbers ++ rest))) ∙ ap (drop (4 * k)) (drop_at (four_bytes n) (u32s numbers ++ rest) 4 (length-four_bytes n)) in
    rw (append_assoc (four_bytes n) (u32s numbers) rest, e, cut) (nth_u32-u32s numbers rest k (omega arith) small)

-- a number that is read from four bytes is below 2 ^ 32
pub number_at-small : (bytes : List ℕ) (offset : ℕ) → ((i : ℕ) → get_or bytes i 0 < 256) → number_at 4 bytes offset < 2 ^ 32
unfolding number_at
number_at-small bytes offset each =
    let small : (i : ℕ) → get_or (drop offset bytes) i 0 < 256 = λ i. rw (get_or-drop offset bytes i 0) (each (offset + i)) in
    omega (arith, small 0, small 1, small 2, small 3)
