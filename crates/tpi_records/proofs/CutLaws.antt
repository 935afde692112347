-- Bytes that are cut into records.
use Rattle.std.proofs.Common.{◌≡◌, ℕ, zero, suc, ◌+◌, ◌*◌, ◌<◌, ◌≤◌, ◌^◌, List, [], ◌∷◌, ◌++◌, length, take, drop, drop_of_length-le, refl, sym, ap, ◌∙◌, arith}
use Rattle.std.specs.List.{concat, AllByRecursion}
use Rattle.std.proofs.lemmas.List.{append-nil, length-append, take_at, drop_at}
use Rattle.byte_fields.specs.Number.{number_at}
use Rattle.byte_fields.proofs.NumberLaws.{number_at-append}
use Rattle.tpi_records.specs.Records.{IsRecord, Begins, IsFramed, record_at, cut, records_in}

-- each record has at least four bytes
pub many_bytes : (records : List (List ℕ)) → AllByRecursion IsRecord records → 4 * length records ≤ length (concat records)
many_bytes [] each = omega arith
many_bytes (r ∷ records) each = omega (arith, length-append r (concat records), each.0.long, many_bytes records each.1)

-- so there are at most a quarter as many records as bytes
pub few_records : (bytes : List ℕ) → IsFramed bytes → 4 * length (records_in bytes) ≤ length bytes
few_records bytes framed = omega (arith, many_bytes (records_in bytes) framed.each, ap length framed.whole)

-- the record at the front has the length that its length field gives
front_len : (r rest : List ℕ) → IsRecord r → number_at 2 (r ++ rest) 0 + 2 ≡ length r
front_len r rest is = omega (arith, number_at-append 2 r rest (omega (arith, is.long)), is.len)

-- the concatenation of records is cut into these records
cut_is : (n : ℕ) (records : List (List ℕ)) → AllByRecursion IsRecord records → length (concat records) ≤ n → cut n (concat records) ≡ records
unfolding cut record_at
cut_is zero [] each few = refl
cut_is (suc n) [] each few = refl
cut_is n ([] ∷ records) each few = absurd (omega (arith, each.0.long))
cut_is zero ((b ∷ r) ∷ records) each few = absurd (omega (arith, few, length-append (b ∷ r) (concat records)))
cut_is (suc n) ((b ∷ r) ∷ records) each few =
    let rest = concat records in
    let len = front_len (b ∷ r) rest each.0 in
    let others = cut_is n records each.1 (omega (arith, few, length-append (b ∷ r) rest)) in
    rw (len, take_at (b ∷ r) rest (length (b ∷ r)) refl, drop_at (b ∷ r) rest (length (b ∷ r)) refl, others) refl

pub records_in_concat : (records : List (List ℕ)) → AllByRecursion IsRecord records → records_in (concat records) ≡ records
unfolding records_in
records_in_concat records each = cut_is (length (concat records)) records each (omega arith)

-- an empty list of bytes has no records
pub none_in : (bytes : List ℕ) → length bytes ≡ 0 → records_in bytes ≡ []
unfolding records_in cut
none_in [] none = refl
none_in (b ∷ bytes) none = absurd (omega (arith, none))

-- if the bytes are these records, they are cut into these records
pub found_in : (bytes : List ℕ) (records : List (List ℕ)) → Begins bytes records [] → records_in bytes ≡ records
found_in bytes records begins = ap records_in (begins.parts ∙ append-nil (concat records)) ∙ records_in_concat records begins.each

pub framed_in : (bytes : List ℕ) (records : List (List ℕ)) → Begins bytes records [] → length bytes < 2 ^ 32 → IsFramed bytes
framed_in bytes records begins short =
    let same = found_in bytes records begins in
    record { each = rw same begins.each; whole = rw same (sym (begins.parts ∙ append-nil (concat records))); short = short }

-- records that reach the end of the bytes leave no rest
pub ends : (bytes : List ℕ) (records : List (List ℕ)) (start : ℕ) → length bytes ≤ start → Begins bytes records (drop start bytes) → Begins bytes records []
ends bytes records start past begins = let none : drop start bytes ≡ [] = drop_of_length-le bytes (omega (arith, past)) in rw (← none) begins

-- framed bytes are their records, with no rest
pub begins_in : (bytes : List ℕ) → IsFramed bytes → Begins bytes (records_in bytes) []
begins_in bytes framed = record { parts = sym framed.whole ∙ sym (append-nil (concat (records_in bytes))); each = framed.each }

-- nonempty framed bytes are a record, and the records after it
pub record Splits (bytes : List ℕ) : Type 0 where
  pub long : 4 ≤ number_at 2 bytes 0 + 2
  pub fits : number_at 2 bytes 0 + 2 ≤ length bytes
  pub records : records_in bytes ≡ take (number_at 2 bytes 0 + 2) bytes ∷ records_in (drop (number_at 2 bytes 0 + 2) bytes)
  pub framed : IsFramed (drop (number_at 2 bytes 0 + 2) bytes)

split_concat : (records : List (List ℕ)) → AllByRecursion IsRecord records → 0 < length (concat records) → length (concat records) < 2 ^ 32 → Splits (concat records)
split_concat [] each some short = absurd (omega (arith, some))
split_concat (r ∷ records) each some short =
    let rest = concat records in
    let len = front_len r rest each.0 in
    let others = records_in_concat records each.1 in
    let first = take_at r rest (length r) refl in
    let after = drop_at r rest (length r) refl in
    record {
      long = omega (arith, len, each.0.long);
      fits = omega (arith, len, length-append r rest);
      records = rw (len, first, after, others) (records_in_concat (r ∷ records) each);
      framed = rw (len, after) (record { each = rw others each.1; whole = rw others refl; short = omega (arith, short, length-append r rest) });
    }

pub splits : (bytes : List ℕ) → IsFramed bytes → 0 < length bytes → Splits bytes
splits bytes framed some =
    rw (← framed.whole) (split_concat (records_in bytes) framed.each (rw framed.whole some) (rw framed.whole framed.short))
