-- A record that is filled with numbers at its places, and its blank.
use Rattle.std.proofs.Common.{◌≡◌, ℕ, List, length, map, ap, arith, sym, subst, ◌∙◌}
use Rattle.std.proofs.lemmas.List.{length-map}
use Rattle.byte_fields.specs.Bytes.{AreBytes}
use Rattle.byte_fields.specs.Number.{number_at}
use Rattle.tpi_records.specs.Records.{IsRecord}
use Rattle.cv_leaves.specs.Checks.{kind_of, places_of}
use Rattle.cv_leaves.specs.Blank.{fill, blank}
use Rattle.cv_leaves.specs.Place.{HasPlaces, IsChecked}
use Rattle.cv_leaves.specs.Laws.{FilledIsRead, FillKeepsBlank, OwnFill, FillKeepsFrame, BlankKeepsFrame, FillKeepsBytes, BlankKeepsBytes}
use Rattle.cv_leaves.specs.References.{reference_at, references, blanked, filled}
use Rattle.cv_leaves.proofs.HoldLaws.{places_met}
use Rattle.cv_leaves.proofs.FillLaws.{zeros, blank_is_fill, blank_fill, fill_kept, fill_len, fill_front, fill_kind, fill_read, fill_twice, fill_own, fill_bytes, fits}

-- ---- its places

-- a checked record has the places that are met in it
pub own_places : (r : List ℕ) → IsChecked r → HasPlaces r (places_of r)
own_places r checked = subst (λ (ps : List ℕ). HasPlaces r ps) (places_met r checked.0 checked.1) checked.1

-- there is a reference for each place
pub reference_each : (r : List ℕ) → length (references r) ≡ length (places_of r)
unfolding references
reference_each r = length-map (places_of r) (reference_at r)

-- a blank is a record that is filled with zeros
pub blanked_is_filled : (r : List ℕ) → blanked r ≡ filled r (zeros (places_of r))
unfolding blanked filled
blanked_is_filled r = blank_is_fill r (places_of r)

-- a filled record has the places of the record
pub filled_has : (r ns : List ℕ) → IsChecked r → HasPlaces (filled r ns) (places_of r)
unfolding filled
filled_has r ns checked = fill_kept r (places_of r) ns (own_places r checked)

-- the places that are met in a filled record are those of the record
pub filled_places : (r ns : List ℕ) → IsChecked r → places_of (filled r ns) ≡ places_of r
filled_places r ns checked = sym (places_met (filled r ns) (places_of r) (filled_has r ns checked))

-- a filled record is checked
pub filled_checked : (r ns : List ℕ) → IsChecked r → IsChecked (filled r ns)
filled_checked r ns checked = (places_of r, filled_has r ns checked)

-- a blank has the places of the record
pub blanked_places : (r : List ℕ) → IsChecked r → places_of (blanked r) ≡ places_of r
blanked_places r checked = ap places_of (blanked_is_filled r) ∙ filled_places r (zeros (places_of r)) checked

-- a blank is checked
pub blanked_checked : (r : List ℕ) → IsChecked r → IsChecked (blanked r)
blanked_checked r checked = rw (blanked_is_filled r) (filled_checked r (zeros (places_of r)) checked)

-- ---- its length

-- a filled record has the length of the record
pub filled_len : (r ns : List ℕ) → IsChecked r → length (filled r ns) ≡ length r
unfolding filled
filled_len r ns checked = fill_len r 0 (places_of r) ns (fits r (places_of r) (own_places r checked))

-- a blank has the length of the record
pub blanked_len : (r : List ℕ) → IsChecked r → length (blanked r) ≡ length r
blanked_len r checked = ap length (blanked_is_filled r) ∙ filled_len r (zeros (places_of r)) checked

-- a filled record has the kind of the record
filled_kind : (r ns : List ℕ) → IsChecked r → number_at 2 (filled r ns) 2 ≡ number_at 2 r 2
unfolding filled
filled_kind r ns checked = fill_kind r 0 (places_of r) ns (fits r (places_of r) (own_places r checked))

-- a blank has the kind of the record
pub blanked_kind : (r : List ℕ) → IsChecked r → kind_of (blanked r) ≡ kind_of r
unfolding kind_of
blanked_kind r checked = rw (blanked_is_filled r) (filled_kind r (zeros (places_of r)) checked)

-- ---- its numbers

-- the references of a filled record are the numbers that it is filled with
pub filled_read : FilledIsRead
unfolding filled references
filled_read r ns checked each small =
    ap (map (reference_at (fill r (places_of r) ns))) (filled_places r ns checked) ∙ fill_read r 0 (places_of r) ns (fits r (places_of r) (own_places r checked)) each small

-- filled twice, the second numbers stay
pub filled_twice : (r ms ns : List ℕ) → IsChecked r → length ns ≡ length (places_of r) → filled (filled r ms) ns ≡ filled r ns
unfolding filled
filled_twice r ms ns checked each =
    ap (λ (ps : List ℕ). fill (fill r (places_of r) ms) ps ns) (filled_places r ms checked) ∙ fill_twice r 0 (places_of r) ms ns (fits r (places_of r) (own_places r checked)) each

-- a blank is filled as its record is
pub fill_blanked : (r ns : List ℕ) → IsChecked r → length ns ≡ length (places_of r) → filled (blanked r) ns ≡ filled r ns
fill_blanked r ns checked each = ap (λ (x : List ℕ). filled x ns) (blanked_is_filled r) ∙ filled_twice r (zeros (places_of r)) ns checked each

-- a filled record has the blank of the record
pub filled_blank : FillKeepsBlank
unfolding filled blanked
filled_blank r ns checked = ap (λ (ps : List ℕ). blank (fill r (places_of r) ns) ps) (filled_places r ns checked) ∙ blank_fill r (places_of r) ns (own_places r checked)

-- a blank stays as it is when it is blanked again
pub blanked_stays : (r : List ℕ) → IsChecked r → blanked (blanked r) ≡ blanked r
blanked_stays r checked = ap blanked (blanked_is_filled r) ∙ filled_blank r (zeros (places_of r)) checked

-- a record of bytes that is filled with its own references stays as it is
filled_own : (r : List ℕ) → IsChecked r → AreBytes r → filled r (references r) ≡ r
unfolding filled references
filled_own r checked bytes = fill_own r 0 (places_of r) bytes (fits r (places_of r) (own_places r checked))

-- a record of bytes is its blank, filled with its own references
pub own_fill : OwnFill
own_fill r checked bytes = fill_blanked r (references r) checked (reference_each r) ∙ filled_own r checked bytes

-- ---- its frame and its bytes

-- a record of the same length and with the same first number has its framing
same_frame : (r s : List ℕ) → length s ≡ length r → number_at 2 s 0 ≡ number_at 2 r 0 → IsRecord r → IsRecord s
same_frame r s len front framed = record {
  long = omega (arith, len, framed.long);
  short = omega (arith, len, framed.short);
  padded = rw len framed.padded;
  len = rw (front, len) framed.len;
}

-- a filled record keeps its first number
filled_front : (r ns : List ℕ) → IsChecked r → number_at 2 (filled r ns) 0 ≡ number_at 2 r 0
unfolding filled
filled_front r ns checked = fill_front r 0 (places_of r) ns (fits r (places_of r) (own_places r checked))

-- a filled record keeps its framing
pub filled_framed : FillKeepsFrame
filled_framed r ns checked framed = same_frame r (filled r ns) (filled_len r ns checked) (filled_front r ns checked) framed

-- a blank keeps its framing
pub blanked_framed : BlankKeepsFrame
blanked_framed r checked framed = rw (blanked_is_filled r) (filled_framed r (zeros (places_of r)) checked framed)

-- a record of bytes stays one when it is filled
pub filled_bytes : FillKeepsBytes
unfolding filled
filled_bytes r ns bytes = fill_bytes r (places_of r) ns bytes

-- a record of bytes stays one when it is blanked
pub blanked_bytes : BlankKeepsBytes
blanked_bytes r bytes = rw (blanked_is_filled r) (filled_bytes r (zeros (places_of r)) bytes)
