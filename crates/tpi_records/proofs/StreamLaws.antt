-- The records of a stream are unique, and a stream that has records has no fault.
use Rattle.std.proofs.Common.{◌≡◌, ◌⊎◌, ℕ, None, ◌*◌, ◌≤◌, List, [], length, drop, refl, sym, ap, ◌∙◌, arith, inl, inr}
use Rattle.std.specs.List.{concat}
use Rattle.std.proofs.lemmas.List.{append-nil, take-append-drop, take_at, length-append, length-take, length-drop}
use Rattle.std.proofs.lemmas.Bool.Decides.{nat_tests}
use Rattle.byte_fields.specs.Check.{first_failing}
use Rattle.tpi_records.specs.Header.{Header, HasTpiHeader, header_checks}
use Rattle.tpi_records.specs.Records.{Begins, HasFlaw, IsMiscounted, HasRecords, IsFirstFault, IsFramed, framed_bytes, records_in}
use Rattle.tpi_records.specs.declared.fault.TpiFault.{TpiFault}
use Rattle.tpi_records.proofs.FramingLaws.{one_framing, framed_unflawed}
use Rattle.tpi_records.proofs.CutLaws.{begins_in, few_records}

-- ---- headers

-- a stream that has a header passes its checks
header_checks-none : (stream : List ℕ) (header : Header) → HasTpiHeader stream header → first_failing (header_checks stream) ≡ None
unfolding header_checks
header_checks-none stream header has = grind (arith, nat_tests)

-- ---- the records that a header frames

pub framed-records : (stream : List ℕ) (header : Header) (records : List (List ℕ)) → HasTpiHeader stream header → HasRecords stream records → framed_bytes stream header ≡ concat records
framed-records stream header records has h =
    let size : length (concat records) ≡ header.record_bytes = omega (arith, has.bytes, h.header.bytes) in
    rw h.parts (take_at (concat records) h.rest header.record_bytes size)

-- two lists of records of one stream are the same list
pub one_records : (stream : List ℕ) (rs ss : List (List ℕ)) → HasRecords stream rs → HasRecords stream ss → rs ≡ ss
one_records stream rs ss has_r has_s =
    one_framing rs ss has_r.each has_s.each (sym (framed-records stream _ rs has_r.header has_r) ∙ framed-records stream _ ss has_r.header has_s)

-- the records of a stream are no longer than the stream
pub has_few : (stream : List ℕ) (records : List (List ℕ)) → HasRecords stream records → length (concat records) ≤ length stream
has_few stream records has = omega (arith, ap length has.parts, length-append (concat records) has.rest, length-drop 56 stream)

-- a stream that has records has no fault
pub no_fault : (stream : List ℕ) (records : List (List ℕ)) (fault : TpiFault) → HasRecords stream records → IsFirstFault stream fault → ⊥
no_fault stream records fault has (inl failing) = let none = header_checks-none stream _ has.header in absurd cc
no_fault stream records fault has (inr (header, is, inl flaw)) = framed_unflawed (framed_bytes stream header) records fault has.each (framed-records stream header records is has) flaw
no_fault stream records fault has (inr (header, is, inr (found, begins, counted, differ))) =
    let same : found ≡ records = one_framing found records begins.each has.each (sym (append-nil (concat found)) ∙ sym begins.parts ∙ framed-records stream header records is has) in
    let count : header.count ≡ length records = omega (arith, is.end, has.header.end) in
    differ (count ∙ sym (ap length same))

-- ---- what the reader found

-- if the framed bytes are records, and as many as the header says, then they are the records of the stream
pub counted_records : (stream bytes : List ℕ) (header : Header) (records : List (List ℕ)) → bytes ≡ framed_bytes stream header → HasTpiHeader stream header → Begins bytes records []
    → length records ≡ header.count → HasRecords stream records
counted_records stream bytes header records is has begins count =
    let all : framed_bytes stream header ≡ concat records = sym is ∙ begins.parts ∙ append-nil (concat records) in
    let size : length (concat records) ≡ header.record_bytes =
    sym (ap length all) ∙ omega (arith, length-take header.record_bytes (drop 56 stream), length-drop 56 stream, has.whole) in
    record {
      header = rw (count, size) has;
      rest = drop header.record_bytes (drop 56 stream);
      parts = sym (take-append-drop header.record_bytes (drop 56 stream)) ∙ rw all refl;
      each = begins.each;
    }

-- a fault of the framed bytes is a first fault of the stream
pub framed_fault : (stream bytes : List ℕ) (header : Header) (said : ℕ) (fault : TpiFault) → bytes ≡ framed_bytes stream header → HasTpiHeader stream header → said ≡ header.count
    → HasFlaw bytes fault ⊎ IsMiscounted bytes said fault → IsFirstFault stream fault
framed_fault stream bytes header said fault is has count flaw = inr (header, has, rw (is, count) at flaw)

-- if the framed bytes are records, and as many as was said, then they are the records of the stream
pub framed_has : (stream bytes : List ℕ) (header : Header) (said : ℕ) → bytes ≡ framed_bytes stream header → HasTpiHeader stream header → said ≡ header.count → IsFramed bytes
    → said ≡ length (records_in bytes) → HasRecords stream (records_in bytes)
framed_has stream bytes header said is has count framed counted = counted_records stream bytes header (records_in bytes) is has (begins_in bytes framed) (sym counted ∙ count)

-- they are at most a quarter as many as the stream has bytes
pub framed_few : (stream bytes : List ℕ) → HasRecords stream (records_in bytes) → IsFramed bytes → 4 * length (records_in bytes) ≤ length stream
framed_few stream bytes has framed = omega (arith, few_records bytes framed, has_few stream (records_in bytes) has, ap length framed.whole)
