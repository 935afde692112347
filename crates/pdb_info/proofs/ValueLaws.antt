-- The values that are read from a stream that passed its checks are the values of its bytes.
use Rattle.std.proofs.Common.{◌≡◌, ◌≢◌, ℕ, zero, suc, ◌+◌, ◌-◌, ◌*◌, ◌/◌, ◌<◌, ◌≤◌, ◌^◌, Bool, true, false, None, List, [], ◌∷◌, ◌++◌, length, take, drop, get_or, refl, sym, ap, ◌∙◌, arith, append_assoc, inl, inr}
use Rattle.std.specs.Prelude.{All, Contains, ◌==◌, ◌||◌, if◌then◌else◌}
use Rattle.std.specs.List.{list_any}
use Rattle.std.proofs.lemmas.Bool.Decides.{nat_tests}
use Rattle.std.proofs.lemmas.List.{drop-drop, take-append-drop, length-take, length-drop}
use Rattle.std.proofs.lemmas.List.FromFn.{length-map-range_with_len, get_or-map-range_with_len}
use Rattle.std.proofs.lemmas.List.Elements.{All-from_get_or, All-same}
use Rattle.byte_fields.specs.Number.{number_at, four_bytes, u32s}
use Rattle.byte_fields.specs.Check.{first_failing, checks_below}
use Rattle.byte_fields.proofs.NumberLaws.{number_at-small, four_bytes-number_at}
use Rattle.pdb_info.specs.Names.{HasNames, IsMap, HasName, IsClosing, IsUnclosed, table_numbers, numbers_at, pair_at, pair_checks, pair_offset, pairs_below, names_below, size_offset, size_of, present_words, present_of, deleted_offset, deleted_words, pairs_offset, pairs_end, is_closed, features_offset, features_of, buffer_of}
use Rattle.pdb_info.specs.declared.map.NameMap.{NameMap}
use Rattle.pdb_info.proofs.BucketLaws.{map_counted}
use Rattle.pdb_info.proofs.PairLaws.{pair_named}
use Rattle.pdb_info.proofs.PartsLaws.{numbers_split, u32s_at, front_is, deleted_is, pairs_from}

-- ---- the offsets of the parts

-- the number of deleted words comes after Size, Capacity, the number of present words and the present words
pub deleted_offset_is : (stream : List ℕ) → deleted_offset stream ≡ size_offset stream + 4 * (3 + present_words stream)
unfolding deleted_offset
deleted_offset_is stream = omega arith

-- the pairs come after the number of deleted words and the deleted words
pub pairs_offset_is : (stream : List ℕ) → pairs_offset stream ≡ deleted_offset stream + 4 * (1 + deleted_words stream)
unfolding pairs_offset
pairs_offset_is stream = omega arith

-- a pair is two numbers long
pairs_end_is : (stream : List ℕ) → pairs_end stream ≡ pairs_offset stream + 4 * (2 * size_of stream)
unfolding pairs_end
pairs_end_is stream = omega arith

-- how many closing words there are
abbrev closing_words : Bool → ℕ
closing_words closed = if closed then 1 else 0

-- the closing word has the length of one number, or is absent
closing_end : (closed : Bool) (end : ℕ) → (if closed then end + 4 else end) ≡ end + 4 * closing_words closed
closing_end true end = refl
closing_end false end = omega arith

-- the feature codes begin after the closing word, or after the pairs if it is absent
features_offset_is : (stream : List ℕ) → features_offset stream ≡ pairs_end stream + 4 * closing_words (is_closed stream)
unfolding features_offset
features_offset_is stream = closing_end (is_closed stream) (pairs_end stream)

-- ---- the numbers in one list

-- the deleted words
abbrev deleted_of : List ℕ → List ℕ
deleted_of stream = numbers_at stream (deleted_offset stream + 4) (deleted_words stream)

-- the closing word, if there is one
abbrev closing_of : List ℕ → List ℕ
closing_of stream = numbers_at stream (pairs_end stream) (closing_words (is_closed stream))

-- how many feature codes there are
abbrev features_len : List ℕ → ℕ
features_len stream = (length stream - features_offset stream) / 4

-- how many numbers there are after the buffer, up to the feature codes
abbrev front_len : List ℕ → ℕ
front_len stream = 3 + present_words stream + (1 + deleted_words stream) + 2 * size_of stream + closing_words (is_closed stream)

-- Capacity, which follows Size
abbrev capacity_of : List ℕ → ℕ
capacity_of stream = number_at 4 stream (size_offset stream + 4)

-- all numbers that were read
abbrev all_numbers : List ℕ → List ℕ
all_numbers stream = table_numbers (size_of stream) (capacity_of stream) (present_of stream) (deleted_of stream) (pairs_below stream (size_of stream)) (closing_of stream) (features_of stream)

-- all numbers that were read are one list of numbers after the buffer
row_is : (stream : List ℕ) → all_numbers stream ≡ numbers_at stream (size_offset stream) (front_len stream + features_len stream)
unfolding features_of
row_is stream =
    let o = size_offset stream in
    let a = 3 + present_words stream in
    let b = 1 + deleted_words stream in
    let c = 2 * size_of stream in
    let d = closing_words (is_closed stream) in
    let deleted : deleted_offset stream ≡ o + 4 * a = deleted_offset_is stream in
    let pairs : pairs_offset stream ≡ o + 4 * (a + b) = omega (arith, deleted, pairs_offset_is stream) in
    let end : pairs_end stream ≡ o + 4 * (a + b + c) = omega (arith, pairs, pairs_end_is stream) in
    let features : features_offset stream ≡ o + 4 * (a + b + c + d) = omega (arith, end, features_offset_is stream) in
    let e1 : numbers_at stream o (a + b) ≡ numbers_at stream o a ++ numbers_at stream (deleted_offset stream) b = numbers_split stream o (deleted_offset stream) a b deleted in
    let e2 : numbers_at stream o (a + b + c) ≡ numbers_at stream o (a + b) ++ numbers_at stream (pairs_offset stream) c = numbers_split stream o (pairs_offset stream) (a + b) c pairs in
    let e3 : numbers_at stream o (a + b + c + d) ≡ numbers_at stream o (a + b + c) ++ closing_of stream = numbers_split stream o (pairs_end stream) (a + b + c) d end in
    let e4 : numbers_at stream o (a + b + c + d + features_len stream) ≡ numbers_at stream o (a + b + c + d) ++ numbers_at stream (features_offset stream) (features_len stream) = numbers_split stream o (features_offset stream) (a + b + c + d) (features_len stream) features in
    sym (e4 ∙ rw (e3, e2, e1, front_is stream, deleted_is stream, pairs_from stream 0 (size_of stream)) refl)

-- ---- the closing word

-- the closing word is 0
closed_word : (stream : List ℕ) → is_closed stream ≡ true → number_at 4 stream (pairs_end stream) ≡ 0
unfolding is_closed
closed_word stream closed = grind (arith, nat_tests)

-- if the closing word is absent, the next number is not 0
open_word : (stream : List ℕ) → is_closed stream ≡ false → pairs_end stream + 4 ≤ length stream → number_at 4 stream (pairs_end stream) ≢ 0
unfolding is_closed
open_word stream opened long = grind (arith, nat_tests)

-- the closing word is within the stream
closed_long : (stream : List ℕ) → is_closed stream ≡ true → pairs_end stream + 4 ≤ length stream
unfolding is_closed
closed_long stream closed = grind (arith, nat_tests)

-- the feature codes begin within the stream
features_inside : (stream : List ℕ) → pairs_end stream ≤ length stream → features_offset stream ≤ length stream
features_inside stream inside =
    let offset = features_offset_is stream in
    elim (is_closed stream) as (λ (closed : Bool). is_closed stream ≡ closed → features_offset stream ≤ length stream) [
      | true ↦ λ is. let e = rw is at offset in omega (arith, e, closed_long stream is)
      | false ↦ λ is. let e = rw is at offset in omega (arith, e)
    ] refl

-- a list of numbers that does not begin with 0 does not begin with a closing word
unclosed : (stream : List ℕ) (offset n : ℕ) → (0 < n → number_at 4 stream offset ≢ 0) → IsUnclosed (numbers_at stream offset n)
unclosed stream offset zero some = tt
unclosed stream offset (suc n) some = let here : offset + 0 ≡ offset = omega arith in rw here (some (omega arith))

-- the closing word is 0, or may be absent
closing_is : (stream : List ℕ) → pairs_end stream ≤ length stream → IsClosing (closing_of stream) (features_of stream)
unfolding features_of
closing_is stream inside =
    let offset = features_offset_is stream in
    elim (is_closed stream) as (λ (closed : Bool). is_closed stream ≡ closed → IsClosing (numbers_at stream (pairs_end stream) (closing_words closed)) (numbers_at stream (features_offset stream) (features_len stream))) [
      | true ↦ λ is. let here : pairs_end stream + 0 ≡ pairs_end stream = omega arith in inl (rw (here, closed_word stream is) refl)
      | false ↦ λ is.
          let at : features_offset stream ≡ pairs_end stream = let e = rw is at offset in omega (arith, e) in
          inr (refl, unclosed stream (features_offset stream) (features_len stream) (λ some. rw at (open_word stream is (omega (arith, at, some)))))
    ] refl

-- ---- the names

-- if a NUL was found in a list, the list contains it
ends : (xs : List ℕ) → list_any (λ byte. byte == 0) xs ≡ true → Contains xs 0
ends [] e = absurd cc
ends (x ∷ xs) e =
    elim (x == 0) as (λ (b : Bool). (x == 0) ≡ b → (b || list_any (λ byte. byte == 0) xs) ≡ true → Contains (x ∷ xs) 0) [
      | true ↦ λ is _. (0, omega arith, grind (arith, nat_tests))
      | false ↦ λ _ rest. let later = ends xs rest in (suc later.0, omega (arith, later.1), later.2)
    ] refl e

-- if all pairs passed their checks, all names have an end
pairs_named : (stream : List ℕ) → first_failing (checks_below (size_of stream) (pair_checks stream)) ≡ None → All (HasName (buffer_of stream)) (pairs_below stream (size_of stream))
unfolding pair_at
pairs_named stream held =
    let n = size_of stream in
    let count : length (pairs_below stream n) ≡ n = length-map-range_with_len (pair_at stream) 0 n in
    All-from_get_or (HasName (buffer_of stream)) (pairs_below stream n) (pair_at stream 0) (λ k lt.
    let below : k < n = omega (arith, lt, count) in
    let at : get_or (pairs_below stream n) k (pair_at stream 0) ≡ pair_at stream k = get_or-map-range_with_len (pair_at stream) 0 n k k (pair_at stream 0) below (omega arith) in
    rw at (ends (drop (number_at 4 stream (pair_offset stream k)) (buffer_of stream)) (pair_named stream n k held below)))

-- ---- the whole stream

-- a stream is its length field, its buffer, its numbers and the rest
cut : (stream : List ℕ) (b n : ℕ) → drop 28 stream ≡ take 4 (drop 28 stream) ++ take b (drop 32 stream) ++ take n (drop (32 + b) stream) ++ drop n (drop (32 + b) stream)
cut stream b n =
    let first : drop 28 stream ≡ take 4 (drop 28 stream) ++ drop 32 stream = sym (take-append-drop 4 (drop 28 stream)) ∙ ap (λ (xs : List ℕ). take 4 (drop 28 stream) ++ xs) (drop-drop 4 28 stream) in
    let second : drop 32 stream ≡ take b (drop 32 stream) ++ drop (32 + b) stream = sym (take-append-drop b (drop 32 stream)) ∙ ap (λ (xs : List ℕ). take b (drop 32 stream) ++ xs) (drop-drop b 32 stream) in
    first
    ∙ ap (λ (xs : List ℕ). take 4 (drop 28 stream) ++ xs) (second ∙ ap (λ (xs : List ℕ). take b (drop 32 stream) ++ xs) (sym (take-append-drop n (drop (32 + b) stream))))
    ∙ sym (append_assoc (take 4 (drop 28 stream)) (take b (drop 32 stream)) (take n (drop (32 + b) stream) ++ drop n (drop (32 + b) stream)))
    ∙ sym (append_assoc (take 4 (drop 28 stream) ++ take b (drop 32 stream)) (take n (drop (32 + b) stream)) (drop n (drop (32 + b) stream)))

-- Size comes after the buffer
pub size_offset_is : (stream : List ℕ) → size_offset stream ≡ 32 + number_at 4 stream 28
unfolding size_offset
size_offset_is stream = refl

-- the number before the buffer is the length of the buffer
pub buffer_is : (stream : List ℕ) → buffer_of stream ≡ take (number_at 4 stream 28) (drop 32 stream)
unfolding buffer_of
buffer_is stream = refl

-- a stream that passed its checks has the names and feature codes that are read from it
pub names_are : (stream : List ℕ) (m : NameMap) → ((i : ℕ) → get_or stream i 0 < 256) → IsMap stream m → pairs_offset stream + 8 * size_of stream ≤ length stream
    → first_failing (checks_below (size_of stream) (pair_checks stream)) ≡ None → HasNames stream (names_below stream (size_of stream)) (features_of stream)
names_are stream m bytes is inside held =
    let b = number_at 4 stream 28 in
    let n = front_len stream + features_len stream in
    let o = size_offset_is stream in
    let row = row_is stream in
    let end : pairs_end stream ≤ length stream = omega (arith, pairs_end_is stream, inside) in
    let features : features_offset stream ≡ size_offset stream + 4 * front_len stream = omega (arith, deleted_offset_is stream, pairs_offset_is stream, pairs_end_is stream, features_offset_is stream) in
    let last : features_offset stream ≤ length stream = features_inside stream end in
    let fit : size_offset stream + 4 * n ≤ length stream = omega (arith, features, last) in
    let long : length (buffer_of stream) ≡ b = rw (buffer_is stream) (omega (arith, length-take b (drop 32 stream), length-drop 32 stream, o, fit)) in
    let four : four_bytes (length (buffer_of stream)) ≡ take 4 (drop 28 stream) = rw long (four_bytes-number_at stream 28 bytes (omega (arith, o, fit))) in
    let spelled : u32s (all_numbers stream) ≡ take (4 * n) (drop (32 + b) stream) = ap u32s row ∙ u32s_at stream (size_offset stream) n bytes fit ∙ rw o refl in
    record {
      buffer = buffer_of stream;
      size = size_of stream;
      capacity = capacity_of stream;
      present = present_of stream;
      deleted = deleted_of stream;
      pairs = pairs_below stream (size_of stream);
      closing = closing_of stream;
      rest = drop (4 * n) (drop (32 + b) stream);
      parts = cut stream b (4 * n) ∙ rw (four, spelled, buffer_is stream) refl;
      short = rw long (number_at-small stream 28 bytes);
      small = All-same (λ number. number < 2 ^ 32) (all_numbers stream) (numbers_at stream (size_offset stream) n) row
          (All-from_get_or (λ number. number < 2 ^ 32) (numbers_at stream (size_offset stream) n) 0 (λ k lt.
          let f = λ (j : ℕ). number_at 4 stream (size_offset stream + 4 * j) in
          let below : k < n = omega (arith, lt, length-map-range_with_len f 0 n) in
          let at : get_or (numbers_at stream (size_offset stream) n) k 0 ≡ f k = get_or-map-range_with_len f 0 n k k 0 below (omega arith) in
          rw at (number_at-small stream (size_offset stream + 4 * k) bytes)));
      few = omega (arith, length-drop (4 * n) (drop (32 + b) stream), length-drop (32 + b) stream, o, features, last);
      counted = sym is.counted;
      paired = length-map-range_with_len (pair_at stream) 0 (size_of stream) ∙ sym (map_counted stream m bytes is);
      closed = closing_is stream end;
      each = pairs_named stream held;
      named = refl;
    }
