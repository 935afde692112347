-- The start of each record.
use Rattle.std.proofs.Common.{◌≡◌, ℕ, zero, suc, ◌+◌, ◌<◌, ◌≤◌, List, [], ◌∷◌, ◌++◌, length, take, drop, get_or, Some, sym, ap, ◌∙◌, arith, inl, inr}
use Rattle.std.specs.List.{concat, slice_get}
use Rattle.std.proofs.lemmas.Bool.{cases_lt}
use Rattle.std.proofs.lemmas.List.{length-append, length-drop, length_push, get_or_push, get_or_append_left}
use Rattle.std.proofs.lemmas.Option.{slice_get_within, slice_get-get_or}
use Rattle.tpi_records.specs.Records.{IsFramed, AreIndexed, records_in, start_of}
use Rattle.tpi_records.proofs.TableLaws.{is_next, is_tail, start_inside}

-- the start of the next record
start_next : (records : List (List ℕ)) (k : ℕ) (r : List ℕ) (others : List (List ℕ)) → drop k records ≡ r ∷ others → start_of records (suc k) ≡ start_of records k + length r
start_next [] zero r others e = absurd cc
start_next [] (suc k) r others e = absurd cc
start_next (x ∷ xs) zero r others e =
    let same : x ≡ r = cc in
    omega (arith, length-append x [], ap length same)
start_next (x ∷ xs) (suc k) r others e = omega (arith, length-append x (concat (take (suc k) xs)), length-append x (concat (take k xs)), start_next xs k r others e)

-- the starts of the records so far, the start of the next one, and the records from it on
pub record AreStarted (records : List (List ℕ)) (starts : List ℕ) (start : ℕ) (others : List (List ℕ)) : Type 0 where
  pub each : (i : ℕ) → i < length starts → get_or starts i 0 ≡ start_of records i
  pub next : start ≡ start_of records (length starts)
  pub left : others ≡ drop (length starts) records
  pub few : length starts ≤ length records

pub one_started : (records : List (List ℕ)) (starts : List ℕ) (next : ℕ) (left : List (List ℕ)) (r : List ℕ) (others : List (List ℕ)) → AreStarted records starts next left → left ≡ r ∷ others
    → AreStarted records (starts ++ next ∷ []) (next + length r) others
one_started records starts next left r others so_far split =
    let front : drop (length starts) records ≡ r ∷ others = sym so_far.left ∙ split in
    let many : length (starts ++ next ∷ []) ≡ suc (length starts) = omega (arith, length_push starts next) in
    let one : suc (length starts) ≡ length starts + 1 = omega arith in
    record {
      each = λ i inside. elim (cases_lt i (length starts)) [
        | inl before ↦ get_or_append_left starts (next ∷ []) 0 i before ∙ so_far.each i before
        | inr not ↦
            let at : length starts ≡ i = omega (arith, not, inside, many) in
            get_or_push starts next 0 i at ∙ so_far.next ∙ ap (start_of records) at
      ];
      next = omega (arith, so_far.next, start_next records (length starts) r others front, ap (start_of records) many);
      few = omega (arith, many, (is_next records (length starts) r others front).inside);
      left = sym (is_next records (length starts) r others front).left ∙ sym (ap (λ n. drop n records) (many ∙ one));
    }

-- where no record is left, each has its start
pub all_started : (bytes starts : List ℕ) (next : ℕ) (left : List (List ℕ)) → IsFramed bytes → AreStarted (records_in bytes) starts next left → left ≡ [] → AreIndexed bytes starts
all_started bytes starts next left framed so_far none =
    let past : length (drop (length starts) (records_in bytes)) ≡ 0 = ap length (sym so_far.left ∙ none) in
    record { framed = framed; many = omega (arith, past, length-drop (length starts) (records_in bytes), so_far.few); each = so_far.each }

-- no start is past the bytes
pub started_inside : (records : List (List ℕ)) (starts : List ℕ) (next : ℕ) (left : List (List ℕ)) → AreStarted records starts next left → next ≤ length (concat records)
started_inside records starts next left so_far = omega (arith, so_far.next, start_inside records (length starts))

-- the bytes from a start that is kept are the records from its position on
pub record IsThere (bytes : List ℕ) (position start : ℕ) : Type 0 where
  pub inside : start ≤ length bytes
  pub framed : IsFramed (drop start bytes)
  pub records : records_in (drop start bytes) ≡ drop position (records_in bytes)

pub is_there : (bytes starts : List ℕ) (position start : ℕ) → AreIndexed bytes starts → slice_get starts position ≡ Some start → IsThere bytes position start
is_there bytes starts position start indexed there =
    let inside : position < length starts = slice_get_within starts position start there in
    let both : Some (get_or starts position 0) ≡ Some start = sym (slice_get-get_or starts position 0 inside) ∙ there in
    let is : get_or starts position 0 ≡ start = cc in
    let at : start_of (records_in bytes) position ≡ start = sym (indexed.each position inside) ∙ is in
    let tail = is_tail bytes position indexed.framed in
    record { inside = rw at at tail.inside; framed = rw at at tail.framed; records = rw at at tail.records }
