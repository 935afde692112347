-- The present buckets, and how many there are.
use Rattle.std.proofs.Common.{◌≡◌, ℕ, zero, suc, ◌+◌, ◌-◌, append-nil, append_assoc, ◌*◌, ◌/◌, ◌%◌, ◌^◌, ◌<◌, ◌≤◌, true, false, cond, List, [], ◌∷◌, ◌++◌, length, take, get_or, refl, sym, ap, ◌∙◌, subst, arith}
use Rattle.std.specs.Prelude.{◌==◌, nat_eq, bit_and, sum_by, All}
use Rattle.std.specs.Int.RustNames.{count_ones}
use Rattle.std.specs.List.{range_with_len, filter, count_by}
use Rattle.std.proofs.lemmas.Nat.{ones_cat, mod-pow-add, mod_below, pow_pos}
use Rattle.std.proofs.lemmas.Nat.Bits.{shr_and_one}
use Rattle.std.proofs.lemmas.List.{length_push, map-id, get_or_at, length-append, take_all}
use Rattle.std.proofs.lemmas.List.FromFn.{map-range_with_len_more, get_or-map-range_with_len, length-map-range_with_len}
use Rattle.std.proofs.lemmas.List.Elements.{filter-append, All-from_get_or}
use Rattle.std.proofs.lemmas.List.Sums.{length-filter, sum_by-append, sum_by_push, sum_by_more}
use Rattle.byte_fields.specs.Number.{number_at}
use Rattle.byte_fields.proofs.NumberLaws.{number_at-small}
use Rattle.pdb_info.specs.declared.map.NameMap.{NameMap}
use Rattle.pdb_info.specs.Names.{IsMap, size_of, is_present, present_of, present_offset, present_words, present_count, buckets_below, present_buckets}

-- a present word is the number at its offset
pub present_word : (stream : List ℕ) (w : ℕ) → w < present_words stream → get_or (present_of stream) w 0 ≡ number_at 4 stream (present_offset stream + 4 * w)
unfolding present_of
present_word stream w lt = get_or-map-range_with_len (λ (k : ℕ). number_at 4 stream (present_offset stream + 4 * k)) 0 (present_words stream) w w 0 lt (omega arith)

-- how many present words there are
pub present_length : (stream : List ℕ) → length (present_of stream) ≡ present_words stream
unfolding present_of
present_length stream = length-map-range_with_len (λ (k : ℕ). number_at 4 stream (present_offset stream + 4 * k)) 0 (present_words stream)

-- one more number
range_more : (a n : ℕ) → range_with_len a (n + 1) ≡ range_with_len a n ++ (a + n) ∷ []
range_more a n = sym (map-id (range_with_len a (n + 1))) ∙ map-range_with_len_more (λ (x : ℕ). x) a n (a + n) (omega arith) ∙ rw (map-id (range_with_len a n)) refl

-- a range of numbers in two parts
pub range_split : (a m n : ℕ) → range_with_len a (m + n) ≡ range_with_len a m ++ range_with_len (a + m) n
range_split a zero n = let e : 0 + n ≡ n = omega arith in let g : a + 0 ≡ a = omega arith in rw (e, g) refl
range_split a (suc m) n =
    let e : suc m + n ≡ suc (m + n) = omega arith in
    let g : a + suc m ≡ (a + 1) + m = omega arith in
    rw (e, g) (ap (λ (xs : List ℕ). a ∷ xs) (range_split (a + 1) m n))

-- a present bucket is one more in the list
pub buckets_more : (present : List ℕ) (bucket : ℕ) → is_present present bucket ≡ true → buckets_below present (bucket + 1) ≡ buckets_below present bucket ++ bucket ∷ []
buckets_more present bucket is =
    let e : 0 + bucket ≡ bucket = omega arith in
    ap (filter (is_present present)) (range_more 0 bucket) ∙ filter-append (is_present present) (range_with_len 0 bucket) ((0 + bucket) ∷ []) ∙ rw (e, is) refl

-- a bucket that is not present adds nothing to the list
pub buckets_same : (present : List ℕ) (bucket : ℕ) → is_present present bucket ≡ false → buckets_below present (bucket + 1) ≡ buckets_below present bucket
buckets_same present bucket is =
    let e : 0 + bucket ≡ bucket = omega arith in
    ap (filter (is_present present)) (range_more 0 bucket) ∙ filter-append (is_present present) (range_with_len 0 bucket) ((0 + bucket) ∷ []) ∙ rw (e, is) (append-nil (buckets_below present bucket))

-- after a present bucket the count is one more
pub count_more : (present : List ℕ) (bucket k : ℕ) → is_present present bucket ≡ true → k ≡ length (buckets_below present bucket) → k + 1 ≡ length (buckets_below present (bucket + 1))
count_more present bucket k is counted = rw (buckets_more present bucket is) (omega (arith, counted, length_push (buckets_below present bucket) bucket))

-- after a bucket that is not present the count is the same
pub count_same : (present : List ℕ) (bucket k : ℕ) → is_present present bucket ≡ false → k ≡ length (buckets_below present bucket) → k ≡ length (buckets_below present (bucket + 1))
count_same present bucket k is counted = counted ∙ ap length (sym (buckets_same present bucket is))

-- the bit of a bucket says whether it is present
pub present_bit : (stream : List ℕ) (bucket nth_u32 : ℕ) → bucket < 32 * present_words stream → nth_u32 ≡ number_at 4 stream (present_offset stream + 4 * (bucket / 32))
    → nat_eq (bit_and (nth_u32 / 2 ^ (bucket % 32)) 1) 1 ≡ is_present (present_of stream) bucket
present_bit stream bucket nth_u32 lt is = rw (shr_and_one nth_u32 (bucket % 32), present_word stream (bucket / 32) (omega arith), is) refl

-- ---- the k-th present bucket

-- in the list of present buckets, a present bucket comes after those below it
bucket_at : (present : List ℕ) (bucket count : ℕ) → is_present present bucket ≡ true → bucket < count
    → (behind : List ℕ) × (buckets_below present count ≡ buckets_below present bucket ++ bucket ∷ behind)
bucket_at present bucket count is lt =
    let p = is_present present in
    let front = buckets_below present (bucket + 1) in
    let rest = count - (bucket + 1) in
    let e : (bucket + 1) + rest ≡ count = omega arith in
    let behind = filter p (range_with_len (0 + (bucket + 1)) rest) in
    let split : buckets_below present ((bucket + 1) + rest) ≡ buckets_below present (bucket + 1) ++ filter p (range_with_len (0 + (bucket + 1)) rest) =
    ap (filter p) (range_split 0 (bucket + 1) rest) ∙ filter-append p (range_with_len 0 (bucket + 1)) (range_with_len (0 + (bucket + 1)) rest) in
    (behind, ap (buckets_below present) (sym e) ∙ split ∙ ap (λ (xs : List ℕ). xs ++ behind) (buckets_more present bucket is) ∙ append_assoc (buckets_below present bucket) (bucket ∷ []) behind)

-- a present bucket is the k-th present bucket if k present buckets are below it
pub kth_bucket : (present : List ℕ) (bucket k : ℕ) → is_present present bucket ≡ true → bucket < 32 * length present → k ≡ length (buckets_below present bucket)
    → get_or (present_buckets present) k 0 ≡ bucket
unfolding present_buckets
kth_bucket present bucket k is lt counted =
    let b = bucket_at present bucket (32 * length present) is lt in
    rw b.1 (get_or_at (buckets_below present bucket) bucket b.0 0 k (sym counted))

-- so there are more present buckets than those below it
pub kth_below : (present : List ℕ) (bucket k : ℕ) → is_present present bucket ≡ true → bucket < 32 * length present → k ≡ length (buckets_below present bucket)
    → k < length (present_buckets present)
unfolding present_buckets
kth_below present bucket k is lt counted =
    let b = bucket_at present bucket (32 * length present) is lt in
    omega (arith, counted, ap length b.1, length-append (buckets_below present bucket) (bucket ∷ b.0))

-- ---- how many buckets are present

-- a bit as a number
bit_ones : (b : ℕ) → b < 2 → count_ones b ≡ cond (b == 1) 1 0
unfolding count_ones
bit_ones zero lt = refl
bit_ones (suc zero) lt = refl
bit_ones (suc (suc n)) lt = absurd (omega arith)

-- one more low bit of a number
ones_more : (number m : ℕ) → count_ones (number % 2 ^ (m + 1)) ≡ count_ones (number % 2 ^ m) + cond (number / 2 ^ m % 2 == 1) 1 0
ones_more number m =
    let one : m + 1 ≡ 1 + m = omega arith in
    let bit = number / 2 ^ m % 2 in
    rw (one, mod-pow-add number 1 m) (ones_cat m bit (number % 2 ^ m) (mod_below number (2 ^ m) (pow_pos m)) ∙ rw (bit_ones bit (omega arith)) (omega arith))

-- the number of present buckets among the first m of a word is the number of ones in its low m bits
word_count : (present : List ℕ) (w m : ℕ) → m ≤ 32 → count_by (is_present present) (range_with_len (32 * w) m) ≡ count_ones (get_or present w 0 % 2 ^ m)
unfolding count_ones
word_count present w zero le = let none : get_or present w 0 % 2 ^ 0 ≡ 0 = omega arith in rw none refl
word_count present w (suc m) le =
    let one : suc m ≡ m + 1 = omega arith in
    let nth_u32 : (32 * w + m) / 32 ≡ w = omega arith in
    let bit : (32 * w + m) % 32 ≡ m = omega arith in
    let f = λ (b : ℕ). cond {A = ℕ} (is_present present b) 1 0 in
    let more : count_by (is_present present) (range_with_len (32 * w) (m + 1)) ≡ count_by (is_present present) (range_with_len (32 * w) m) + f (32 * w + m) =
    ap (sum_by f) (range_more (32 * w) m) ∙ sum_by_push f (range_with_len (32 * w) m) (32 * w + m) in
    let both : count_by (is_present present) (range_with_len (32 * w) (m + 1)) ≡ count_ones (get_or present w 0 % 2 ^ (m + 1)) =
    more ∙ rw (word_count present w m (omega arith), nth_u32, bit) (sym (ones_more (get_or present w 0) m)) in
    subst (λ (j : ℕ). count_by (is_present present) (range_with_len (32 * w) j) ≡ count_ones (get_or present w 0 % 2 ^ j)) (sym one) both

-- the number of present buckets in the first words is the number of ones in these words
count_upto : (present : List ℕ) (n : ℕ) → All (λ number. number < 2 ^ 32) present → n ≤ length present → count_by (is_present present) (range_with_len 0 (32 * n)) ≡ sum_by count_ones (take n present)
count_upto present zero small le = refl
count_upto present (suc n) small le =
    let one : suc n ≡ n + 1 = omega arith in
    let more : 32 * (n + 1) ≡ 32 * n + 32 = omega arith in
    let here : 0 + 32 * n ≡ 32 * n = omega arith in
    let f = λ (b : ℕ). cond {A = ℕ} (is_present present b) 1 0 in
    let whole : get_or present n 0 % 2 ^ 32 ≡ get_or present n 0 = omega (arith, small n 0 (omega arith)) in
    let parts : range_with_len 0 (32 * n + 32) ≡ range_with_len 0 (32 * n) ++ range_with_len (32 * n) 32 = range_split 0 (32 * n) 32 ∙ rw here refl in
    let split : count_by (is_present present) (range_with_len 0 (32 * n + 32)) ≡ count_by (is_present present) (range_with_len 0 (32 * n)) + count_by (is_present present) (range_with_len (32 * n) 32) =
    ap (sum_by f) parts ∙ sum_by-append f (range_with_len 0 (32 * n)) (range_with_len (32 * n) 32) in
    let both : count_by (is_present present) (range_with_len 0 (32 * (n + 1))) ≡ sum_by count_ones (take (n + 1) present) =
    rw more (split ∙ rw (count_upto present n small (omega arith), word_count present n 32 (omega arith), whole) (sym (sum_by_more count_ones present n 0 (omega arith)))) in
    subst (λ (j : ℕ). count_by (is_present present) (range_with_len 0 (32 * j)) ≡ sum_by count_ones (take j present)) (sym one) both

-- the number of present buckets is the number of ones in all present words
pub buckets_counted : (present : List ℕ) → All (λ number. number < 2 ^ 32) present → length (present_buckets present) ≡ present_count present
unfolding present_buckets
buckets_counted present small =
    length-filter (is_present present) (range_with_len 0 (32 * length present)) ∙ count_upto present (length present) small (omega arith) ∙ ap (sum_by count_ones) (take_all (length present) present (omega arith))

-- each present word fits in four bytes
present_small : (stream : List ℕ) → ((i : ℕ) → get_or stream i 0 < 256) → All (λ number. number < 2 ^ 32) (present_of stream)
present_small stream bytes = All-from_get_or (λ number. number < 2 ^ 32) (present_of stream) 0 (λ w lt.
    rw (present_word stream w (omega (arith, lt, present_length stream))) (number_at-small stream (present_offset stream + 4 * w) bytes))

-- a map that passed its checks has as many present buckets as Size says
pub map_counted : (stream : List ℕ) (m : NameMap) → ((i : ℕ) → get_or stream i 0 < 256) → IsMap stream m → length (present_buckets (present_of stream)) ≡ size_of stream
map_counted stream m bytes is = buckets_counted (present_of stream) (present_small stream bytes) ∙ sym is.counted

-- after the last bucket, all present buckets were counted
pub all_counted : (present : List ℕ) (bucket k : ℕ) → bucket ≡ 32 * length present → k ≡ length (buckets_below present bucket) → k ≡ length (present_buckets present)
unfolding present_buckets
all_counted present bucket k end counted = counted ∙ rw end refl
