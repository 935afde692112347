-- What records name, one record after the other.
use Rattle.std.proofs.Common.{◌≡◌, ℕ, ◌+◌, ◌*◌, ◌<◌, ◌≤◌, ◌^◌, ◌⊎◌, inl, inr, Bool, true, false, cond, Option, List, [], ◌∷◌, ◌++◌, length, take, drop, map, Some, refl, sym, ap, ◌∙◌, arith, append_assoc}
use Rattle.std.specs.List.{AllByRecursion, concat}
use Rattle.std.proofs.lemmas.List.{append-nil, take-append-drop, length-drop}
use Rattle.byte_fields.specs.Check.{Check, first_failing}
use Rattle.byte_fields.specs.Number.{number_at}
use Rattle.byte_fields.proofs.NumberLaws.{number_at-append}
use Rattle.tpi_records.specs.Header.{Header, HasTpiHeader, header_checks}
use Rattle.tpi_records.specs.Records.{BeginsWith, HasRecords, IsFirstFault, IsFramed, framed_bytes, records_in}
use Rattle.tpi_records.proofs.CutLaws.{records_in_concat, splits}
use Rattle.tpi_records.proofs.StreamLaws.{framed-records}
use Rattle.tpi_records.specs.declared.fault.TpiFault.{TpiFault}
use Rattle.tpi_records.specs.declared.fault.TpiFault.TheVariants as tpi
use Rattle.cv_leaves.specs.Checks.{body_of}
use Rattle.cv_leaves.specs.Place.{Apart, HasPlaces, IsChecked}
use Rattle.cv_leaves.proofs.PlaceLaws.{places_apart}
use Rattle.checked_types.specs.declared.fault.TypeFault.TheVariants as types
use Rattle.file_types.specs.declared.fault.PdbFault.{PdbFault}
use Rattle.file_types.specs.declared.fault.PdbFault.TheVariants as pdb
use Rattle.pdbmerge_c.specs.declared.references.Reference.{Reference}
use Rattle.pdbmerge_c.specs.AllReferences.{IsFaultOfAll, IsLeafFault, NameAtPlaces}
use Rattle.pdbmerge_c.specs.References.{reference_in}

-- ---- the places of a record

spread : (from : ℕ) (places : List ℕ) (end : ℕ) → Apart from places end → from + 4 * length places ≤ end
spread from [] end apart = omega (arith, apart)
spread from (p ∷ places) end apart = omega (arith, apart.0, spread (p + 4) places end apart.1)

-- a record has fewer places than bytes
pub few_places : (r places : List ℕ) → HasPlaces r places → 4 * length places ≤ length r
unfolding body_of
few_places r places has = omega (arith, spread 0 places (length (body_of r)) (places_apart r places has), length-drop 4 r)

-- ---- the records of a stream

-- the bytes that a header frames are the records of the stream
pub records_framed : (stream bytes : List ℕ) (header : Header) (records : List (List ℕ)) → bytes ≡ framed_bytes stream header → length bytes < 2 ^ 32 → HasTpiHeader stream header
    → HasRecords stream records → HasRecords stream (records_in bytes) × IsFramed bytes
records_framed stream bytes header records is short heads has =
    let all : bytes ≡ concat records = is ∙ framed-records stream header records heads has in
    let cut : records_in bytes ≡ records = ap records_in all ∙ records_in_concat records has.each in
    (rw cut has, record { each = rw cut has.each; whole = rw cut (sym all); short = short })

-- a record at the front of records ends where the second one begins
pub record_ends : (bytes r : List ℕ) → BeginsWith bytes r → number_at 2 bytes 0 + 2 ≡ length r
record_ends bytes r begins =
    let is_record = begins.is_record in
    ap (λ (t : List ℕ). number_at 2 t 0 + 2) begins.parts ∙ omega (arith, number_at-append 2 r begins.rest (omega (arith, is_record.long)), is_record.len)

-- framed bytes begin with a record
pub framed_begins : (bytes : List ℕ) → IsFramed bytes → 0 < length bytes → (r : List ℕ) × BeginsWith bytes r
framed_begins bytes framed some =
    let split = splits bytes framed some in
    let end = number_at 2 bytes 0 + 2 in
    let each = rw split.records at framed.each in
    (take end bytes, record { is_record = each.0; rest = drop end bytes; parts = sym (take-append-drop end bytes) })

-- ---- the records before what is left

-- one more of them
pub front_more : (front left records : List (List ℕ)) (r : List ℕ) (others : List (List ℕ)) → front ++ left ≡ records → left ≡ r ∷ others → (front ++ r ∷ []) ++ others ≡ records
front_more front left records r others parts split = append_assoc front (r ∷ []) others ∙ ap (λ (t : List (List ℕ)). front ++ t) (sym split) ∙ parts

-- where nothing is left, they are all records
pub front_all : (front left records : List (List ℕ)) → front ++ left ≡ records → left ≡ [] → front ≡ records
front_all front left records parts none = sym (append-nil front) ∙ rw none at parts

pub checked_more : (front : List (List ℕ)) (r : List ℕ) → AllByRecursion IsChecked front → IsChecked r → AllByRecursion IsChecked (front ++ r ∷ [])
checked_more [] r each this = (this, tt)
checked_more (x ∷ front) r each this = (each.0, checked_more front r each.1 this)

-- what they name, and what one more record names
pub named_more : (front places : List (List ℕ)) (found : List Reference) (r here : List ℕ) → NameAtPlaces front places found → HasPlaces r here
    → NameAtPlaces (front ++ r ∷ []) (places ++ here ∷ []) (found ++ map (reference_in r) here)
named_more [] [] found r here none has = (has, ([], rw none (sym (append-nil (map (reference_in r) here))), refl))
named_more (x ∷ front) (p ∷ places) found r here (first, (others, split, named)) has =
    (first, (others ++ map (reference_in r) here, rw split (append_assoc (map (reference_in x) p) others (map (reference_in r) here)), named_more front places others r here named has))
named_more [] (p ∷ places) found r here named has = absurd named
named_more (x ∷ front) [] found r here named has = absurd named

-- ---- faults

-- the first fault of the leaves of its records is that of a stream
pub stream_leaf_fault : {A : Type 0} (stream : List ℕ) (records : List (List ℕ)) (why : PdbFault A) → HasRecords stream records → IsLeafFault records why → IsFaultOfAll stream why
stream_leaf_fault stream records (pdb.Type (types.Leaf at inner)) has fault = (records, has, fault)
stream_leaf_fault stream records why has fault = absurd fault

later : (f : TpiFault) (b : Bool) (rest : Option TpiFault) → (f ≡ tpi.Memory → ⊥) → cond b rest (Some f) ≡ Some tpi.Memory → rest ≡ Some tpi.Memory
later f true rest other e = e
later f false rest other e = absurd (other cc)

-- where no check has the fault out of memory, it is not the first one
never : (checks : List (Check TpiFault)) → AllByRecursion (λ check. check.fault ≡ tpi.Memory → ⊥) checks → first_failing checks ≡ Some tpi.Memory → ⊥
never [] others e = absurd cc
never (check ∷ checks) others e = never checks others.1 (later check.fault check.holds (first_failing checks) others.0 e)

no_memory : (stream : List ℕ) → IsFirstFault stream tpi.Memory → ⊥
unfolding header_checks
no_memory stream (inl failing) = never (header_checks stream) (λ is. cc, (λ is. cc, (λ is. cc, (λ is. cc, (λ is. cc, (λ is. cc, tt)))))) failing
no_memory stream (inr (header, has, inl (front, rest, begins, some, flaw))) = flaw
no_memory stream (inr (header, has, inr (records, begins, is, differ))) = absurd cc

-- where memory ran out, the stream has no fault
pub memory_framed : (stream : List ℕ) (fault : TpiFault) → fault ≡ tpi.Memory → IsFirstFault stream fault ⊎ ((fault ≡ tpi.Memory) × ((records : List (List ℕ)) × HasRecords stream records))
    → (records : List (List ℕ)) × HasRecords stream records
memory_framed stream fault is (inl first) = absurd (no_memory stream (rw is at first))
memory_framed stream fault is (inr want) = want.1
