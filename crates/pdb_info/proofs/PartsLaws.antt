-- All numbers after the buffer in one list: the numbers that were read are the bytes of the stream.
use Rattle.std.proofs.Common.{◌≡◌, ℕ, zero, suc, ◌+◌, ◌*◌, ◌<◌, ◌≤◌, List, ◌∷◌, ◌++◌, length, map, take, drop, get_or, refl, sym, ap, ◌∙◌, arith}
use Rattle.std.specs.List.{range_with_len, flat_map}
use Rattle.std.proofs.lemmas.List.{map-append, drop-drop, get_or-drop, length-drop}
use Rattle.std.proofs.lemmas.List.FromFn.{length-map-range_with_len}
use Rattle.byte_fields.specs.Number.{number_at, nth_u32, u32s}
use Rattle.byte_fields.proofs.NumberLaws.{number_at-drop, u32s-nth_u32}
use Rattle.pdb_info.specs.Names.{pair_numbers, numbers_at, pair_at, pair_offset, size_offset, size_of, present_words, present_of, deleted_offset, deleted_words, pairs_offset}
use Rattle.pdb_info.proofs.BucketLaws.{range_split}

-- ---- lists of numbers

-- the same numbers, counted from a later offset
shifted : (stream : List ℕ) (offset start : ℕ) (m c n : ℕ) → start ≡ offset + 4 * m
    → map (λ k. number_at 4 stream (offset + 4 * k)) (range_with_len (m + c) n) ≡ map (λ k. number_at 4 stream (start + 4 * k)) (range_with_len c n)
shifted stream offset start m c zero is = refl
shifted stream offset start m c (suc n) is =
    let here : offset + 4 * (m + c) ≡ start + 4 * c = omega (arith, is) in
    let next : m + c + 1 ≡ m + (c + 1) = omega arith in
    rw (here, next) (ap (λ (xs : List ℕ). number_at 4 stream (start + 4 * c) ∷ xs) (shifted stream offset start m (c + 1) n is))

-- a list of numbers in two parts
pub numbers_split : (stream : List ℕ) (offset start m n : ℕ) → start ≡ offset + 4 * m → numbers_at stream offset (m + n) ≡ numbers_at stream offset m ++ numbers_at stream start n
numbers_split stream offset start m n is =
    let f = λ (k : ℕ). number_at 4 stream (offset + 4 * k) in
    let zeros : 0 + m ≡ m + 0 = omega arith in
    ap (map f) (range_split 0 m n) ∙ map-append f (range_with_len 0 m) (range_with_len (0 + m) n) ∙ rw zeros (ap (λ (xs : List ℕ). numbers_at stream offset m ++ xs) (shifted stream offset start m 0 n is))

-- the number at a position of the bytes from an offset on
pub nth_u32_at : (stream : List ℕ) (offset k : ℕ) → nth_u32 (drop offset stream) k ≡ number_at 4 stream (offset + 4 * k)
unfolding nth_u32
nth_u32_at stream offset k =
    sym (number_at-drop 4 (drop offset stream) (4 * k)) ∙ ap (λ (bytes : List ℕ). number_at 4 bytes 0) (drop-drop (4 * k) offset stream) ∙ number_at-drop 4 stream (offset + 4 * k)

-- a list of numbers is the numbers of the bytes from its offset on
u32s_are : (stream : List ℕ) (offset a n : ℕ) → map (λ k. number_at 4 stream (offset + 4 * k)) (range_with_len a n) ≡ map (nth_u32 (drop offset stream)) (range_with_len a n)
u32s_are stream offset a zero = refl
u32s_are stream offset a (suc n) = rw (nth_u32_at stream offset a, u32s_are stream offset (a + 1) n) refl

-- a list of numbers, written as bytes, is the bytes that it was read from
pub u32s_at : (stream : List ℕ) (offset n : ℕ) → ((i : ℕ) → get_or stream i 0 < 256) → offset + 4 * n ≤ length stream → u32s (numbers_at stream offset n) ≡ take (4 * n) (drop offset stream)
u32s_at stream offset n bytes long =
    let small : (i : ℕ) → get_or (drop offset stream) i 0 < 256 = λ i. rw (get_or-drop offset stream i 0) (bytes (offset + i)) in
    ap u32s (u32s_are stream offset 0 n) ∙ u32s-nth_u32 (drop offset stream) 0 n small (omega (arith, length-drop offset stream))

-- ---- the parts of the list

-- Size, Capacity and the present words
pub front_is : (stream : List ℕ) → numbers_at stream (size_offset stream) (3 + present_words stream) ≡ size_of stream ∷ number_at 4 stream (size_offset stream + 4) ∷ length (present_of stream) ∷ present_of stream
unfolding present_of
front_is stream =
    let o = size_offset stream in
    let n = present_words stream in
    let here : o + 0 ≡ o = omega arith in
    let long : length (numbers_at stream (o + 12) n) ≡ n = length-map-range_with_len (λ (k : ℕ). number_at 4 stream (o + 12 + 4 * k)) 0 n in
    numbers_split stream o (o + 12) 3 n (omega arith) ∙ rw (here, long) refl

-- the deleted words, after their number
pub deleted_is : (stream : List ℕ) → numbers_at stream (deleted_offset stream) (1 + deleted_words stream)
    ≡ length (numbers_at stream (deleted_offset stream + 4) (deleted_words stream)) ∷ numbers_at stream (deleted_offset stream + 4) (deleted_words stream)
deleted_is stream =
    let o = deleted_offset stream in
    let n = deleted_words stream in
    let here : o + 0 ≡ o = omega arith in
    let long : length (numbers_at stream (o + 4) n) ≡ n = length-map-range_with_len (λ (k : ℕ). number_at 4 stream (o + 4 + 4 * k)) 0 n in
    numbers_split stream o (o + 4) 1 n (omega arith) ∙ rw (here, long) refl

-- the pairs, two numbers each
pub pairs_from : (stream : List ℕ) (a n : ℕ) → map (λ k. number_at 4 stream (pairs_offset stream + 4 * k)) (range_with_len (2 * a) (2 * n)) ≡ flat_map pair_numbers (map (pair_at stream) (range_with_len a n))
unfolding pair_at
pairs_from stream a zero = refl
pairs_from stream a (suc n) =
    let two : 2 * suc n ≡ suc (suc (2 * n)) = omega arith in
    let next : 2 * a + 1 + 1 ≡ 2 * (a + 1) = omega arith in
    let first : pairs_offset stream + 4 * (2 * a) ≡ pair_offset stream a = omega arith in
    let second : pairs_offset stream + 4 * (2 * a + 1) ≡ pair_offset stream a + 4 = omega arith in
    rw (two, first, second, next) (ap (λ (xs : List ℕ). number_at 4 stream (pair_offset stream a) ∷ number_at 4 stream (pair_offset stream a + 4) ∷ xs) (pairs_from stream (a + 1) n))
