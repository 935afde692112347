-- The header of an info stream is in the first piece of the stream.
use Rattle.std.proofs.Common.{◌≡◌, inl, inr, ℕ, ◌+◌, ◌≤◌, ◌<◌, ◌++◌, ◌∷◌, List, Some, length, take, drop, ap, sym, ◌∙◌, arith, true, false, nat_le}
use Rattle.std.specs.List.{concat}
use Rattle.std.proofs.lemmas.Bool.{cases_lt}
use Rattle.std.proofs.lemmas.Bool.Decides.{nat_tests}
use Rattle.std.proofs.lemmas.List.{take-append-le, drop-append-le, length-append, length-drop}
use Rattle.byte_fields.specs.Number.{number_at}
use Rattle.byte_fields.proofs.NumberLaws.{number_at-drop, number_at-append}
use Rattle.pdb_info.specs.Guid.{stored_guid}
use Rattle.byte_fields.specs.Check.{first_failing}
use Rattle.msf_blocks.specs.Layout.{LayoutView}
use Rattle.msf_streams.specs.Streams.{FirstIsLong, stream_contents}
use Rattle.pdb_info.specs.Header.{HeaderFields, HasInfoHeader, info_header_checks}
use Rattle.pdb_info.specs.declared.fault.InfoFault.{InfoFault}
use Rattle.pdb_info.specs.declared.fault.InfoFault.TheVariants.{InfoShort}
use Rattle.file_types.specs.Read.{HasShortInfo}

-- a number in the front is the number at this offset
number_in_front : (count offset : ℕ) (front back : List ℕ) → offset + count ≤ length front → number_at count (front ++ back) offset ≡ number_at count front offset
number_in_front count offset front back inside =
    sym (number_at-drop count (front ++ back) offset) ∙ ap (λ (t : List ℕ). number_at count t 0) (drop-append-le offset front back (omega (arith, inside)))
    ∙ number_at-append count (drop offset front) back (omega (arith, inside, length-drop offset front)) ∙ number_at-drop count front offset

-- a header of the front is a header of the whole
pub header_in_front : (front back : List ℕ) (fields : HeaderFields) → HasInfoHeader front fields → HasInfoHeader (front ++ back) fields
header_in_front front back fields has =
    let number : (offset : ℕ) → offset + 4 ≤ length front → number_at 4 (front ++ back) offset ≡ number_at 4 front offset = λ offset inside. number_in_front 4 offset front back inside in
    record {
      long = omega (arith, has.long, length-append front back);
      version_is = number 0 (omega (arith, has.long)) ∙ has.version_is;
      signature_is = number 4 (omega (arith, has.long)) ∙ has.signature_is;
      age_is = number 8 (omega (arith, has.long)) ∙ has.age_is;
      guid_is = ap (λ (t : List ℕ). stored_guid (take 16 t)) (drop-append-le 12 front back (omega (arith, has.long)))
          ∙ ap stored_guid (take-append-le 16 (drop 12 front) back (omega (arith, has.long, length-drop 12 front))) ∙ has.guid_is;
    }

le_true : (m n : ℕ) → m ≤ n → nat_le m n ≡ true
le_true m n le = grind (arith, nat_tests)

-- a front that has no header is short, and the fault says so
pub short_header : (front : List ℕ) (why : InfoFault) → first_failing (info_header_checks front) ≡ Some why → (why ≡ InfoShort) × (length front < 28)
unfolding info_header_checks
short_header front why is = elim (cases_lt (length front) 28) [
  | inl short ↦ let failed : nat_le 28 (length front) ≡ false = grind (arith, nat_tests) in let e = rw failed at is in (cc, short)
  | inr long ↦ let e = rw (le_true 28 (length front) long) at is in absurd cc
]

-- where the first piece of stream 1 is short, the stream is
pub short_stream : (file : List ℕ) (layout : LayoutView) (front : List ℕ) (others : List (List ℕ)) → stream_contents file layout 1 ≡ Some (concat (front ∷ others))
    → FirstIsLong (front ∷ others) → length front < 28 → HasShortInfo file layout
short_stream file layout front others contents (inl long) short = absurd (omega (arith, long, short))
short_stream file layout front others contents (inr all) short = (concat (front ∷ others), contents, omega (arith, all, short))
