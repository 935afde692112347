-- The starts of records 0, 64, 128 and so on.
use Rattle.std.proofs.Common.{◌≡◌, ℕ, zero, suc, ◌+◌, ◌*◌, ◌/◌, ◌%◌, ◌<◌, ◌≤◌, List, [], ◌∷◌, ◌++◌, length, take, drop, get_or, Some, None, drop_of_length-le, refl, sym, ap, ◌∙◌, arith, inl, inr}
use Rattle.std.specs.Prelude.{◌==◌, ◌&&◌, Bool, true, false, IsTrue, if◌then◌else◌}
use Rattle.std.specs.List.{concat, slice_get, AllByRecursion}
use Rattle.std.proofs.lemmas.Bool.{cases_Bool, cases_lt}
use Rattle.std.proofs.lemmas.Bool.Decides.{nat_tests}
use Rattle.std.proofs.lemmas.List.{length-append, length-drop, drop_at, drop_more, drop-drop, take_at, take-append-le}
use Rattle.std.proofs.lemmas.List.FromFn.{length-map-range_with_len, get_or-map-range_with_len, map-range_with_len_more}
use Rattle.std.proofs.lemmas.Option.{slice_get_past, slice_get_within, slice_get-get_or}
use Rattle.tpi_records.specs.Records.{IsRecord, Begins, IsFramed, cut, records_in, start_of, starts_below, starts_for}
use Rattle.tpi_records.proofs.CutLaws.{records_in_concat}

-- ---- an element by what is left

-- where an element and others are left of a list from a position on, the element is at that position, and the others are left after it
pub record IsNext {X : Type 0} (xs : List X) (n : ℕ) (x : X) (others : List X) : Type 0 where
  pub inside : n < length xs
  pub here : slice_get xs n ≡ Some x
  pub left : drop (n + 1) xs ≡ others

pub is_next : {X : Type 0} (xs : List X) (n : ℕ) (x : X) (others : List X) → drop n xs ≡ x ∷ others → IsNext xs n x others
is_next {X = X} xs n x others e =
    let inside : n < length xs = omega (arith, length-drop n xs, ap length e) in
    let cut : get_or xs n x ∷ drop (n + 1) xs ≡ x ∷ others = sym (drop_more xs n x inside) ∙ e in
    let head : get_or xs n x ≡ x = cc in
    record { inside = inside; here = slice_get-get_or xs n x inside ∙ ap (λ (y : X). Some y) head; left = cc }

-- where nothing is left from a position on, nothing is at that position
pub none_left : {X : Type 0} (xs : List X) (n : ℕ) → drop n xs ≡ [] → slice_get xs n ≡ None
none_left xs n e = slice_get_past xs n (omega (arith, length-drop n xs, ap length e))

-- the same, said of what is left
pub next_there : {X : Type 0} (xs left others : List X) (n : ℕ) (x : X) → left ≡ drop n xs → left ≡ x ∷ others → Some x ≡ slice_get xs n
next_there xs left others n x from is = sym (is_next xs n x others (sym from ∙ is)).here

pub none_there : {X : Type 0} (xs left : List X) (n : ℕ) → left ≡ drop n xs → left ≡ [] → None ≡ slice_get xs n
none_there xs left n from is = sym (none_left xs n (sym from ∙ is))

-- ---- the bytes from a start on

-- without the bytes before the start of a record, the records from it on are left
pub drop_start : (records : List (List ℕ)) (k : ℕ) → drop (start_of records k) (concat records) ≡ concat (drop k records)
drop_start records zero = refl
drop_start [] (suc k) = refl
drop_start (r ∷ records) (suc k) =
    ap (λ n. drop n (r ++ concat records)) (length-append r (concat (take k records)))
    ∙ sym (drop-drop (start_of records k) (length r) (r ++ concat records))
    ∙ rw (drop_at r (concat records) (length r) refl) (drop_start records k)

pub start_inside : (records : List (List ℕ)) (k : ℕ) → start_of records k ≤ length (concat records)
start_inside records zero = omega arith
start_inside [] (suc k) = omega arith
start_inside (r ∷ records) (suc k) = omega (arith, length-append r (concat records), length-append r (concat (take k records)), start_inside records k)

AllByRecursion-drop : {X : Type 0} (P : X → Type 0) (xs : List X) (k : ℕ) → AllByRecursion P xs → AllByRecursion P (drop k xs)
AllByRecursion-drop P xs zero each = each
AllByRecursion-drop P [] (suc k) each = tt
AllByRecursion-drop P (x ∷ xs) (suc k) each = AllByRecursion-drop P xs k each.1

-- from the start of a record on, the bytes are the records from it on
pub record IsTail (bytes : List ℕ) (k : ℕ) : Type 0 where
  pub inside : start_of (records_in bytes) k ≤ length bytes
  pub framed : IsFramed (drop (start_of (records_in bytes) k) bytes)
  pub records : records_in (drop (start_of (records_in bytes) k) bytes) ≡ drop k (records_in bytes)

pub is_tail : (bytes : List ℕ) (k : ℕ) → IsFramed bytes → IsTail bytes k
is_tail bytes k framed =
    let records = records_in bytes in
    let at : drop (start_of records k) bytes ≡ concat (drop k records) = ap (drop (start_of records k)) (sym framed.whole) ∙ drop_start records k in
    let each : AllByRecursion IsRecord (drop k records) = AllByRecursion-drop IsRecord records k framed.each in
    let cut : records_in (drop (start_of records k) bytes) ≡ drop k records = ap records_in at ∙ records_in_concat (drop k records) each in
    record {
      inside = omega (arith, start_inside records k, ap length framed.whole);
      framed = record { each = rw cut each; whole = ap concat cut ∙ sym at; short = omega (arith, framed.short, length-drop (start_of records k) bytes) };
      records = cut;
    }

-- no bytes are no records
pub none_framed : IsFramed []
unfolding records_in cut
none_framed = record { each = tt; whole = refl; short = omega arith }

-- ---- the list of starts

pub length-starts : (records : List (List ℕ)) (count : ℕ) → length (starts_below records count) ≡ count
length-starts records count = length-map-range_with_len (λ k. start_of records (64 * k)) 0 count

-- an entry of the list is the start of its record
pub start_there : (records : List (List ℕ)) (count i start : ℕ) → slice_get (starts_below records count) i ≡ Some start → start ≡ start_of records (64 * i)
start_there records count i start there =
    let starts = starts_below records count in
    let inside : i < length starts = slice_get_within starts i start there in
    let both : Some (get_or starts i 0) ≡ Some start = sym (slice_get-get_or starts i 0 inside) ∙ there in
    let is : get_or starts i 0 ≡ start = cc in
    sym is ∙ get_or-map-range_with_len (λ k. start_of records (64 * k)) 0 count i i 0 (omega (arith, inside, length-starts records count)) (omega arith)

-- one start more
one_start_more : (records : List (List ℕ)) (n : ℕ) → starts_below records (suc n) ≡ starts_below records n ++ start_of records (64 * n) ∷ []
one_start_more records n =
    let one : suc n ≡ n + 1 = omega arith in
    ap (starts_below records) one ∙ map-range_with_len_more (λ k. start_of records (64 * k)) 0 n n (omega arith)

-- one more record changes no start that is kept
same_starts : (records : List (List ℕ)) (r : List ℕ) (count : ℕ) → 64 * count ≤ length records + 63 → starts_below (records ++ r ∷ []) count ≡ starts_below records count
same_starts records r zero few = refl
same_starts records r (suc n) few =
    let one : suc n ≡ n + 1 = omega arith in
    let here : take (64 * n) (records ++ r ∷ []) ≡ take (64 * n) records = take-append-le (64 * n) records (r ∷ []) (omega (arith, few)) in
    one_start_more (records ++ r ∷ []) n
    ∙ ap (λ (xs : List ℕ). xs ++ start_of (records ++ r ∷ []) (64 * n) ∷ []) (same_starts records r n (omega (arith, few)))
    ∙ ap (λ (xs : List (List ℕ)). starts_below records n ++ length (concat xs) ∷ []) here
    ∙ sym (one_start_more records n)

-- one more record: the starts so far, and the start of this record if its position is a multiple of 64
pub starts_more : (records : List (List ℕ)) (r starts now : List ℕ) (found : ℕ) → found ≡ length records → starts ≡ starts_below records (starts_for found)
    → now ≡ (if found % 64 == 0 then starts ++ length (concat records) ∷ [] else starts) → now ≡ starts_below (records ++ r ∷ []) (starts_for (found + 1))
starts_more records r starts now found many are is = elim (cases_Bool (found % 64 == 0)) [
  | inl kept ↦
      let n = starts_for found in
      let whole : found % 64 ≡ 0 = grind (arith, nat_tests, kept) in
      let count : suc n ≡ starts_for (found + 1) = omega (arith, whole) in
      let at : length records ≡ 64 * n = omega (arith, whole, many) in
      let all : records ≡ take (64 * n) (records ++ r ∷ []) = sym (take_at records (r ∷ []) (64 * n) at) in
      rw kept at is
      ∙ ap (λ (xs : List ℕ). xs ++ length (concat records) ∷ []) (are ∙ sym (same_starts records r n (omega (arith, at))))
      ∙ ap (λ (xs : List (List ℕ)). starts_below (records ++ r ∷ []) n ++ length (concat xs) ∷ []) all
      ∙ sym (one_start_more (records ++ r ∷ []) n)
      ∙ ap (starts_below (records ++ r ∷ [])) count
  | inr passed ↦
      let n = starts_for found in
      let some : 0 < found % 64 = grind (arith, nat_tests, passed) in
      let count : n ≡ starts_for (found + 1) = omega (arith, some) in
      rw passed at is ∙ are ∙ sym (same_starts records r n (omega (arith, many, some))) ∙ ap (starts_below (records ++ r ∷ [])) count
]

-- ---- the walk that checks records

pub both_true : (a b : Bool) → IsTrue (a && b) → IsTrue a × IsTrue b
both_true true b h = (refl, h)
both_true false b h = absurd cc

-- the length of the records that were seen is the offset of the bytes that are left
pub seen_length : (bytes : List ℕ) (records : List (List ℕ)) (start : ℕ) → start ≤ length bytes → Begins bytes records (drop start bytes) → length (concat records) ≡ start
seen_length bytes records start inside begins = omega (arith, inside, ap length begins.parts, length-append (concat records) (drop start bytes), length-drop start bytes)

-- ---- a record by its position

-- where the start of a record up to 63 before the position is kept, the bytes from it on are framed, and these records
pub record IsKept (bytes : List ℕ) (position start : ℕ) : Type 0 where
  pub inside : start ≤ length bytes
  pub framed : IsFramed (drop start bytes)
  pub records : drop (position % 64) (records_in (drop start bytes)) ≡ drop position (records_in bytes)

pub is_kept : (bytes starts : List ℕ) (count position start : ℕ) → IsFramed bytes → starts ≡ starts_below (records_in bytes) (starts_for count) → slice_get starts (position / 64) ≡ Some start
    → IsKept bytes position start
is_kept bytes starts count position start framed are there =
    let k = 64 * (position / 64) in
    let at : start_of (records_in bytes) k ≡ start = sym (start_there (records_in bytes) (starts_for count) (position / 64) start (rw are at there)) in
    let tail = is_tail bytes k framed in
    let both : k + position % 64 ≡ position = omega arith in
    record {
      inside = rw at at tail.inside;
      framed = rw at at tail.framed;
      records = ap (drop (position % 64)) (rw at at tail.records) ∙ drop-drop (position % 64) k (records_in bytes) ∙ ap (λ n. drop n (records_in bytes)) both;
    }

-- where none is kept, there are no records from the position on
pub none_kept : (records : List (List ℕ)) (starts : List ℕ) (count position : ℕ) → count ≡ length records → starts ≡ starts_below records (starts_for count) → slice_get starts (position / 64) ≡ None
    → drop position records ≡ []
none_kept records starts count position all are none =
    let past : length starts ≤ position / 64 = elim (cases_lt (position / 64) (length starts)) [
      | inl below ↦ let both : Some (get_or starts (position / 64) 0) ≡ None = sym (slice_get-get_or starts (position / 64) 0 below) ∙ none in absurd cc
      | inr le ↦ le
    ] in
    drop_of_length-le records (omega (arith, past, all, ap length are, length-starts records (starts_for count)))
