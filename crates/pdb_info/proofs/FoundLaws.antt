-- A stream that is written as the format says fails no check.
use Rattle.std.proofs.Common.{◌≡◌, ℕ, zero, suc, ◌+◌, ◌*◌, ◌<◌, ◌≤◌, ◌^◌, Bool, true, cond, Option, Some, None, List, [], ◌∷◌, ◌++◌, length, drop, get_or, refl, sym, ap, ◌∙◌, arith, append_assoc}
use Rattle.std.specs.Prelude.{All, ◌==◌, nat_le}
use Rattle.std.specs.List.{flat_map}
use Rattle.std.proofs.lemmas.Bool.Decides.{nat_tests}
use Rattle.std.proofs.lemmas.List.{append-nil, drop-drop, drop_at, take_at, length-append, length-drop, get_or_at, get_or_append_left, get_or-append-add}
use Rattle.std.proofs.lemmas.List.FromFn.{fill_by_all}
use Rattle.std.proofs.lemmas.List.Elements.{All-get_or, All-from_get_or}
use Rattle.byte_fields.specs.Number.{number_at, four_bytes, nth_u32, u32s}
use Rattle.byte_fields.specs.Check.{first_failing}
use Rattle.byte_fields.proofs.NumberLaws.{nth_u32-u32s, length-u32s, length-four_bytes}
use Rattle.byte_fields.proofs.CheckLaws.{checks_below-all}
use Rattle.pdb_info.specs.Header.{info_header_checks}
use Rattle.pdb_info.specs.Names.{NamedStream, Pair, HasNames, HasName, pair_numbers, table_numbers, is_named, map_checks, pair_checks, pair_offset, present_count, size_offset, size_of, present_offset, present_words, present_of, deleted_offset, deleted_words, pairs_offset, buffer_of}
use Rattle.pdb_info.specs.Info.{InfoView, HasInfo, info_checks}
use Rattle.pdb_info.specs.declared.fault.InfoFault.{InfoFault}
use Rattle.pdb_info.proofs.BucketLaws.{buckets_counted}
use Rattle.pdb_info.proofs.NameLaws.{one_passes}
use Rattle.pdb_info.proofs.PartsLaws.{nth_u32_at}
use Rattle.pdb_info.proofs.ValueLaws.{deleted_offset_is, pairs_offset_is, size_offset_is, buffer_is}
use Rattle.pdb_info.proofs.InfoLaws.{pairs_answer}

-- a placeholder for a position where there is no pair
no_pair : Pair
no_pair = record { name_offset = 0; stream = 0 }

-- if m is at most n, the test of this is true
le_true : (m n : ℕ) → m ≤ n → nat_le m n ≡ true
le_true m n le = grind (arith, nat_tests)

-- if two numbers are the same, the test of this is true
eq_true : (m n : ℕ) → m ≡ n → (m == n) ≡ true
eq_true m n is = grind (arith, nat_tests)

-- one more check that holds
held_more : (b : Bool) (fault : InfoFault) (others : Option InfoFault) → b ≡ true → others ≡ None → cond b others (Some fault) ≡ None
held_more b fault others is held = rw is held

-- ---- the numbers of a map, by their positions

-- all numbers, with the parts after the present words taken together
regroup : (a b c d e : List ℕ) → (((a ++ b) ++ c) ++ d) ++ e ≡ a ++ (b ++ (c ++ (d ++ e)))
regroup a b c d e = simp append_assoc

-- the present words come after three numbers
present_number : (size capacity count : ℕ) (present back : List ℕ) (k : ℕ) → k < length present → get_or ((size ∷ capacity ∷ count ∷ present) ++ back) (3 + k) 0 ≡ get_or present k 0
present_number size capacity count present back k lt = let e : 3 + k ≡ suc (suc (suc k)) = omega arith in rw e (get_or_append_left present back 0 k lt)

-- the offset of the name of the k-th pair is at position 2 * k
pair_number : (pairs : List Pair) (back : List ℕ) (k : ℕ) → k < length pairs → get_or (flat_map pair_numbers pairs ++ back) (2 * k) 0 ≡ (get_or pairs k no_pair).name_offset
pair_number [] back k lt = absurd (omega arith)
pair_number (pair ∷ pairs) back zero lt = refl
pair_number (pair ∷ pairs) back (suc k) lt = let e : 2 * suc k ≡ suc (suc (2 * k)) = omega arith in rw e (pair_number pairs back k (omega arith))

-- a pair is two numbers
length-pairs : (pairs : List Pair) → length (flat_map pair_numbers pairs) ≡ 2 * length pairs
length-pairs [] = refl
length-pairs (pair ∷ pairs) = omega (arith, length-pairs pairs)

-- ---- a stream, and the numbers after its buffer

-- after the header come the length of the buffer, the buffer, these numbers and the rest
record Spells (stream buffer numbers rest : List ℕ) : Type 0 where
  count : number_at 4 stream 28 ≡ length buffer
  behind : drop 32 stream ≡ buffer ++ (u32s numbers ++ rest)
  text : drop (32 + length buffer) stream ≡ u32s numbers ++ rest
  long : length stream ≡ 32 + length buffer + 4 * length numbers + length rest

-- a stream with these parts has these numbers
spells : (stream buffer numbers rest : List ℕ) → 28 ≤ length stream → length buffer < 2 ^ 32 → drop 28 stream ≡ four_bytes (length buffer) ++ buffer ++ u32s numbers ++ rest → Spells stream buffer numbers rest
spells stream buffer numbers rest header short parts =
    let n = length buffer in
    let tail = buffer ++ (u32s numbers ++ rest) in
    let all : drop 28 stream ≡ four_bytes n ++ tail = parts ∙ append_assoc (four_bytes n ++ buffer) (u32s numbers) rest ∙ append_assoc (four_bytes n) buffer (u32s numbers ++ rest) in
    let one : u32s (n ∷ []) ++ tail ≡ four_bytes n ++ tail = ap (λ (xs : List ℕ). xs ++ tail) (append-nil (four_bytes n)) in
    let first : nth_u32 (u32s (n ∷ []) ++ tail) 0 ≡ n = nth_u32-u32s (n ∷ []) tail 0 (omega arith) short in
    let behind : drop 32 stream ≡ tail = sym (drop-drop 4 28 stream) ∙ ap (drop 4) all ∙ drop_at (four_bytes n) tail 4 (length-four_bytes n) in
    record {
      count = sym (nth_u32_at stream 28 0) ∙ ap (λ (xs : List ℕ). nth_u32 xs 0) (all ∙ sym one) ∙ first;
      behind = behind;
      text = sym (drop-drop n 32 stream) ∙ ap (drop n) behind ∙ drop_at buffer (u32s numbers ++ rest) n refl;
      long = omega (arith, length-drop 28 stream, ap length all, length-append (four_bytes n) tail, length-four_bytes n, length-append buffer (u32s numbers ++ rest), length-append (u32s numbers) rest, length-u32s numbers);
    }

-- the k-th number after the buffer
number_is : (stream buffer numbers rest : List ℕ) (k : ℕ) → Spells stream buffer numbers rest → All (λ number. number < 2 ^ 32) numbers → k < length numbers → number_at 4 stream (size_offset stream + 4 * k) ≡ get_or numbers k 0
number_is stream buffer numbers rest k h small lt =
    let o : size_offset stream ≡ 32 + length buffer = omega (arith, size_offset_is stream, h.count) in
    sym (nth_u32_at stream (size_offset stream) k) ∙ rw o (ap (λ (xs : List ℕ). nth_u32 xs k) h.text) ∙ nth_u32-u32s numbers rest k lt (All-get_or (λ number. number < 2 ^ 32) numbers k 0 lt small)

-- ---- a stream with names

-- the offsets of the parts of the map, and their numbers
record IsTreeAt (stream : List ℕ) (size : ℕ) (buffer present deleted : List ℕ) (pairs : List Pair) : Type 0 where
  header : 28 ≤ length stream
  buffer_len : number_at 4 stream 28 ≡ length buffer
  buffer_there : buffer_of stream ≡ buffer
  size_there : size_of stream ≡ size
  present_len : present_words stream ≡ length present
  present_there : present_of stream ≡ present
  present_small : All (λ number. number < 2 ^ 32) present
  deleted_len : deleted_words stream ≡ length deleted
  pair_there : (k : ℕ) → k < length pairs → number_at 4 stream (pair_offset stream k) ≡ (get_or pairs k no_pair).name_offset
  long : size_offset stream + 4 * (4 + length present + length deleted + 2 * length pairs) ≤ length stream

-- words at the offset of the present words are the present words
present_is : (stream present : List ℕ) → present_words stream ≡ length present → ((k : ℕ) → k < length present → get_or present k 0 ≡ number_at 4 stream (present_offset stream + 4 * k)) → present_of stream ≡ present
unfolding present_of
present_is stream present len each =
    rw len (sym (fill_by_all (λ (k : ℕ). number_at 4 stream (present_offset stream + 4 * k)) present (length present) 0 refl each))

-- if a stream has names, its parts are at the offsets where the checks read them
stands : (stream : List ℕ) (names : List NamedStream) (features : List ℕ) → 28 ≤ length stream → (h : HasNames stream names features) → IsTreeAt stream h.size h.buffer h.present h.deleted h.pairs
stands stream names features header h =
    let o = size_offset stream in
    let p = length h.present in
    let d = length h.deleted in
    let front = h.size ∷ h.capacity ∷ p ∷ h.present in
    let deleted = d ∷ h.deleted in
    let flat = flat_map pair_numbers h.pairs in
    let back = h.closing ++ features in
    let numbers = table_numbers h.size h.capacity h.present h.deleted h.pairs h.closing features in
    let s = spells stream h.buffer numbers h.rest header h.short h.parts in
    let grouped : numbers ≡ front ++ (deleted ++ (flat ++ back)) = regroup front deleted flat h.closing features in
    let len : length numbers ≡ 4 + p + d + 2 * length h.pairs + length back =
    ap length grouped ∙ omega (arith, length-append front (deleted ++ (flat ++ back)), length-append deleted (flat ++ back), length-append flat back, length-pairs h.pairs) in
    let start : o ≡ 32 + length h.buffer = omega (arith, size_offset_is stream, s.count) in
    let number = λ (k : ℕ) (lt : k < length numbers). number_is stream h.buffer numbers h.rest k s h.small lt in
    let size : number_at 4 stream (o + 4 * 0) ≡ h.size = number 0 (omega (arith, len)) in
    let here : o + 0 ≡ o = omega arith in
    let present_len : present_words stream ≡ p = number 2 (omega (arith, len)) in
    let present : (k : ℕ) → k < p → get_or h.present k 0 ≡ number_at 4 stream (present_offset stream + 4 * k) = λ k lt.
    let at : present_offset stream + 4 * k ≡ o + 4 * (3 + k) = omega arith in
    sym (rw at (number (3 + k) (omega (arith, len, lt)) ∙ ap (λ (xs : List ℕ). get_or xs (3 + k) 0) grouped ∙ present_number h.size h.capacity p h.present (deleted ++ (flat ++ back)) k lt)) in
    let deleted_at : deleted_offset stream ≡ o + 4 * (3 + p) = omega (arith, deleted_offset_is stream, present_len) in
    let deleted_len : deleted_words stream ≡ d =
    rw deleted_at (number (3 + p) (omega (arith, len)) ∙ ap (λ (xs : List ℕ). get_or xs (3 + p) 0) grouped ∙ get_or_at front d (h.deleted ++ (flat ++ back)) 0 (3 + p) (omega arith)) in
    let pairs_at : pairs_offset stream ≡ o + 4 * (4 + p + d) = omega (arith, pairs_offset_is stream, deleted_at, deleted_len) in
    record {
      header = header;
      buffer_len = s.count;
      buffer_there = buffer_is stream ∙ rw (s.count, s.behind) (take_at h.buffer (u32s numbers ++ h.rest) (length h.buffer) refl);
      size_there = rw here at size;
      present_len = present_len;
      present_there = present_is stream h.present present_len present;
      present_small = All-from_get_or (λ number. number < 2 ^ 32) h.present 0 (λ k lt.
          let at : get_or numbers (3 + k) 0 ≡ get_or h.present k 0 = ap (λ (xs : List ℕ). get_or xs (3 + k) 0) grouped ∙ present_number h.size h.capacity p h.present (deleted ++ (flat ++ back)) k lt in
          rw (← at) (All-get_or (λ number. number < 2 ^ 32) numbers (3 + k) 0 (omega (arith, len, lt)) h.small));
      deleted_len = deleted_len;
      pair_there = λ k lt.
          let at : pair_offset stream k ≡ o + 4 * (4 + p + d + 2 * k) = omega (arith, pairs_at) in
          let place : 4 + p + d + 2 * k ≡ length front + (length deleted + 2 * k) = omega arith in
          rw at (number (4 + p + d + 2 * k) (omega (arith, len, lt)) ∙ ap (λ (xs : List ℕ). get_or xs (4 + p + d + 2 * k) 0) grouped ∙ rw place (get_or-append-add front (deleted ++ (flat ++ back)) (length deleted + 2 * k) 0 ∙ get_or-append-add deleted (flat ++ back) (2 * k) 0 ∙ pair_number h.pairs back k lt));
      long = omega (arith, s.long, len, start);
    }

-- ---- the checks

-- the checks before the pairs hold
map_holds : (stream : List ℕ) (size : ℕ) (buffer present deleted : List ℕ) (pairs : List Pair) → IsTreeAt stream size buffer present deleted pairs → present_count present ≡ size → first_failing (map_checks stream) ≡ None
unfolding map_checks
map_holds stream size buffer present deleted pairs h counted =
    let o : size_offset stream ≡ 32 + length buffer = omega (arith, size_offset_is stream, h.buffer_len) in
    let d = deleted_offset_is stream in
    let fact : size_of stream ≡ present_count (present_of stream) = h.size_there ∙ sym counted ∙ ap present_count (sym h.present_there) in
    let fit = λ (end : ℕ) (le : end ≤ length stream). le_true end (length stream) le in
    held_more _ _ _ (fit 32 (omega (arith, h.long, o)))
    (held_more _ _ _ (fit (32 + number_at 4 stream 28) (omega (arith, h.long, o, h.buffer_len)))
    (held_more _ _ _ (fit (size_offset stream + 4) (omega (arith, h.long)))
    (held_more _ _ _ (fit (size_offset stream + 4 + 4) (omega (arith, h.long)))
    (held_more _ _ _ (fit (size_offset stream + 8 + 4) (omega (arith, h.long)))
    (held_more _ _ _ (fit (present_offset stream + 4 * present_words stream) (omega (arith, h.long, h.present_len)))
    (held_more _ _ _ (fit (deleted_offset stream + 4) (omega (arith, h.long, h.present_len, d)))
    (held_more _ _ _ (fit (deleted_offset stream + 4 + 4 * deleted_words stream) (omega (arith, h.long, h.present_len, h.deleted_len, d)))
    (held_more _ _ _ (eq_true (size_of stream) (present_count (present_of stream)) fact) refl))))))))

-- the checks of each pair hold
pair_holds : (stream : List ℕ) (size : ℕ) (buffer present deleted : List ℕ) (pairs : List Pair) (k : ℕ) → IsTreeAt stream size buffer present deleted pairs → All (HasName buffer) pairs → k < length pairs
    → first_failing (pair_checks stream k) ≡ None
unfolding pair_checks
pair_holds stream size buffer present deleted pairs k h each lt =
    let at : pairs_offset stream ≡ size_offset stream + 4 * (4 + length present + length deleted) = omega (arith, deleted_offset_is stream, pairs_offset_is stream, h.present_len, h.deleted_len) in
    let ends : HasName buffer (get_or pairs k no_pair) = All-get_or (HasName buffer) pairs k no_pair lt each in
    let named : is_named buffer (get_or pairs k no_pair).name_offset ≡ true = one_passes (λ (byte : ℕ). byte == 0) (drop (get_or pairs k no_pair).name_offset buffer) ends.0 ends.1 (eq_true (get_or (drop (get_or pairs k no_pair).name_offset buffer) ends.0 0) 0 ends.2) in
    held_more _ _ _ (le_true (pair_offset stream k + 8) (length stream) (omega (arith, h.long, at)))
    (held_more _ _ _ (rw (h.buffer_there, h.pair_there k lt) named) refl)

-- a header passes its check
header_holds : (stream : List ℕ) → 28 ≤ length stream → first_failing (info_header_checks stream) ≡ None
unfolding info_header_checks
header_holds stream long = held_more _ _ _ (le_true 28 (length stream) long) refl

-- a stream that is written as the format says fails no check
pub info_holds : (stream : List ℕ) (info : InfoView) → HasInfo stream info → first_failing (info_checks stream) ≡ None
info_holds stream info h =
    let n = h.names in
    let s = stands stream info.names info.features h.header.long n in
    let pairs : length n.pairs ≡ size_of stream = omega (arith, n.paired, buckets_counted n.present s.present_small, n.counted, s.size_there) in
    pairs_answer stream (header_holds stream h.header.long) (map_holds stream n.size n.buffer n.present n.deleted n.pairs s n.counted)
    ∙ checks_below-all (pair_checks stream) (size_of stream) (λ k lt. pair_holds stream n.size n.buffer n.present n.deleted n.pairs k s n.each (omega (arith, lt, pairs)))
