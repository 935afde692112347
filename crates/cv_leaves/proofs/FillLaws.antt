-- Numbers that are written at all places of a record: they leave its places as they are, and are read there again.
use Rattle.std.proofs.Common.{ℕ, ◌≡◌, ◌≤◌, ◌<◌, ◌+◌, ◌^◌, ◌∙◌, List, [], ◌∷◌, length, map, ap, arith, refl, inl, inr}
use Rattle.std.proofs.lemmas.List.{length-drop}
use Rattle.std.specs.List.{AllByRecursion}
use Rattle.byte_fields.specs.Bytes.{AreBytes}
use Rattle.byte_fields.specs.Number.{number_at}
use Rattle.cv_leaves.specs.Checks.{body_of}
use Rattle.cv_leaves.specs.Blank.{put_four, fill, blank}
use Rattle.cv_leaves.specs.Place.{HasPlaces, Apart}
use Rattle.cv_leaves.specs.References.{reference_at}
use Rattle.cv_leaves.proofs.PutLaws.{number_in_body, put_len, two_before, kind_before, read_before, put_read, put_own, put_twice, put_swap, put_bytes}
use Rattle.cv_leaves.proofs.PlaceLaws.{Among, ends_behind, places_apart}
use Rattle.cv_leaves.proofs.KeepLaws.{among_kept}

-- each of the first places is one of the others
abbrev pub Within : List ℕ → List ℕ → Type 0
Within ps qs = AllByRecursion (λ p. Among p qs) ps

-- more places to be among change nothing
within_longer : (ps qs : List ℕ) (q : ℕ) → Within ps qs → Within ps (q ∷ qs)
within_longer [] qs q each = tt
within_longer (p ∷ ps) qs q each = (inr each.0, within_longer ps qs q each.1)

-- places are among themselves
pub within_itself : (ps : List ℕ) → Within ps ps
within_itself [] = tt
within_itself (p ∷ ps) = (inl refl, within_longer ps ps p (within_itself ps))

-- written at some of the places of a record
fill_some : (r places ps ns : List ℕ) → HasPlaces r places → Within ps places → HasPlaces (fill r ps ns) places
fill_some r places [] ns has each = has
fill_some r places (p ∷ ps) [] has each = has
fill_some r places (p ∷ ps) (n ∷ ns) has each = fill_some (put_four r (4 + p) n) places ps ns (among_kept r places p n has each.0) each.1

-- a record that is filled at its places keeps them
pub fill_kept : (r places ns : List ℕ) → HasPlaces r places → HasPlaces (fill r places ns) places
fill_kept r places ns has = fill_some r places places ns has (within_itself places)

-- ---- zeros

-- a zero for each place
abbrev pub zeros : List ℕ → List ℕ
zeros [] = []
zeros (p ∷ ps) = 0 ∷ zeros ps

-- there are as many zeros as places
zeros_each : (ps : List ℕ) → length (zeros ps) ≡ length ps
zeros_each [] = refl
zeros_each (p ∷ ps) = omega (arith, zeros_each ps)

-- a blank is filled with zeros
pub blank_is_fill : (r ps : List ℕ) → blank r ps ≡ fill r ps (zeros ps)
blank_is_fill r [] = refl
blank_is_fill r (p ∷ ps) = blank_is_fill (put_four r (4 + p) 0) ps

-- a record that is blanked keeps its places
pub blank_kept : (r places : List ℕ) → HasPlaces r places → HasPlaces (blank r places) places
blank_kept r places has = rw (blank_is_fill r places) (fill_kept r places (zeros places) has)

-- ---- places that are apart

-- these places are apart in a record of this length, and the first is not before `from`
abbrev pub Fits : ℕ → List ℕ → ℕ → Type 0
Fits from ps len = (end : ℕ) × Apart from ps end × (end + 4 ≤ len)

-- the places of a record are apart
pub fits : (r places : List ℕ) → HasPlaces r places → Fits 0 places (length r)
unfolding body_of
fits r places has = (length (body_of r), places_apart r places has, omega (arith, has.long, length-drop 4 r))

-- the four bytes at the first of them lie within the record
first_fits : (from p : ℕ) (ps : List ℕ) (len : ℕ) → Fits from (p ∷ ps) len → 4 + p + 4 ≤ len
first_fits from p ps len f = omega (arith, ends_behind (p + 4) ps f.0 f.1.1, f.2)

-- once the first is written, the others are apart in what was made
next_fits : (y : List ℕ) (from p n : ℕ) (ps : List ℕ) → Fits from (p ∷ ps) (length y) → Fits (p + 4) ps (length (put_four y (4 + p) n))
next_fits y from p n ps f = (f.0, f.1.1, omega (arith, f.2, put_len y (4 + p) n (first_fits from p ps (length y) f)))

-- a record that is filled keeps its length
pub fill_len : (y : List ℕ) (from : ℕ) (ps ns : List ℕ) → Fits from ps (length y) → length (fill y ps ns) ≡ length y
fill_len y from [] ns f = refl
fill_len y from (p ∷ ps) [] f = refl
fill_len y from (p ∷ ps) (n ∷ ns) f =
    fill_len (put_four y (4 + p) n) (p + 4) ps ns (next_fits y from p n ps f) ∙ put_len y (4 + p) n (first_fits from p ps (length y) f)

-- its first number of two bytes stays
pub fill_front : (y : List ℕ) (from : ℕ) (ps ns : List ℕ) → Fits from ps (length y) → number_at 2 (fill y ps ns) 0 ≡ number_at 2 y 0
fill_front y from [] ns f = refl
fill_front y from (p ∷ ps) [] f = refl
fill_front y from (p ∷ ps) (n ∷ ns) f =
    fill_front (put_four y (4 + p) n) (p + 4) ps ns (next_fits y from p n ps f) ∙ two_before y (4 + p) n (omega arith) (omega (arith, first_fits from p ps (length y) f))

-- and so does its kind
pub fill_kind : (y : List ℕ) (from : ℕ) (ps ns : List ℕ) → Fits from ps (length y) → number_at 2 (fill y ps ns) 2 ≡ number_at 2 y 2
fill_kind y from [] ns f = refl
fill_kind y from (p ∷ ps) [] f = refl
fill_kind y from (p ∷ ps) (n ∷ ns) f =
    fill_kind (put_four y (4 + p) n) (p + 4) ps ns (next_fits y from p n ps f) ∙ kind_before y (4 + p) n (omega arith) (omega (arith, first_fits from p ps (length y) f))

-- a number that ends before all places stays
fill_before : (y : List ℕ) (q from : ℕ) (ps ns : List ℕ) → q + 4 ≤ 4 + from → Fits from ps (length y) → number_at 4 (fill y ps ns) q ≡ number_at 4 y q
fill_before y q from [] ns before f = refl
fill_before y q from (p ∷ ps) [] before f = refl
fill_before y q from (p ∷ ps) (n ∷ ns) before f =
    fill_before (put_four y (4 + p) n) q (p + 4) ps ns (omega (arith, before, f.1.0)) (next_fits y from p n ps f)
    ∙ read_before y q (4 + p) n (omega (arith, before, f.1.0)) (omega (arith, first_fits from p ps (length y) f))

-- the numbers that a record is filled with are read at the places
pub fill_read : (y : List ℕ) (from : ℕ) (ps ns : List ℕ) → Fits from ps (length y) → length ns ≡ length ps → AllByRecursion (λ n. n < 2 ^ 32) ns → map (reference_at (fill y ps ns)) ps ≡ ns
fill_read y from [] [] f each small = refl
fill_read y from [] (n ∷ ns) f each small = absurd (omega (arith, each))
fill_read y from (p ∷ ps) [] f each small = absurd (omega (arith, each))
fill_read y from (p ∷ ps) (n ∷ ns) f each small =
    let one = put_four y (4 + p) n in
    let next = next_fits y from p n ps f in
    let inside = first_fits from p ps (length y) f in
    let first : reference_at (fill one ps ns) p ≡ n =
    number_in_body (fill one ps ns) p ∙ fill_before one (4 + p) (p + 4) ps ns (omega arith) next ∙ put_read y (4 + p) n inside small.0 in
    rw (first, fill_read one (p + 4) ps ns next (omega (arith, each)) small.1) refl

-- a number that lies before the places may be written before or after them
put_first : (y : List ℕ) (p n from : ℕ) (ps ms : List ℕ) → p + 4 ≤ from → Fits from ps (length y) → put_four (fill y ps ms) (4 + p) n ≡ fill (put_four y (4 + p) n) ps ms
put_first y p n from [] ms before f = refl
put_first y p n from (q ∷ qs) [] before f = refl
put_first y p n from (q ∷ qs) (m ∷ ms) before f =
    put_first (put_four y (4 + q) m) p n (q + 4) qs ms (omega (arith, before, f.1.0)) (next_fits y from q m qs f)
    ∙ ap (λ (x : List ℕ). fill x qs ms) (put_swap y (4 + p) (4 + q) m n (omega (arith, before, f.1.0)) (first_fits from q qs (length y) f))

-- filled twice at the same places, the second numbers stay
pub fill_twice : (y : List ℕ) (from : ℕ) (ps ms ns : List ℕ) → Fits from ps (length y) → length ns ≡ length ps → fill (fill y ps ms) ps ns ≡ fill y ps ns
fill_twice y from [] ms ns f each = refl
fill_twice y from (p ∷ ps) [] ns f each = refl
fill_twice y from (p ∷ ps) (m ∷ ms) [] f each = absurd (omega (arith, each))
fill_twice y from (p ∷ ps) (m ∷ ms) (n ∷ ns) f each =
    let inside = first_fits from p ps (length y) f in
    ap (λ (x : List ℕ). fill x ps ns)
    (put_first (put_four y (4 + p) m) p n (p + 4) ps ms (omega arith) (next_fits y from p m ps f) ∙ ap (λ (x : List ℕ). fill x ps ms) (put_twice y (4 + p) m n inside))
    ∙ fill_twice (put_four y (4 + p) n) (p + 4) ps ms ns (next_fits y from p n ps f) (omega (arith, each))

-- bytes that are filled with their own numbers stay as they are
pub fill_own : (y : List ℕ) (from : ℕ) (ps : List ℕ) → AreBytes y → Fits from ps (length y) → fill y ps (map (reference_at y) ps) ≡ y
fill_own y from [] bytes f = refl
fill_own y from (p ∷ ps) bytes f =
    let own : put_four y (4 + p) (reference_at y p) ≡ y = ap (put_four y (4 + p)) (number_in_body y p) ∙ put_own y (4 + p) bytes (first_fits from p ps (length y) f) in
    let apart : p + 4 ≤ f.0 = ends_behind (p + 4) ps f.0 f.1.1 in
    ap (λ (x : List ℕ). fill x ps (map (reference_at y) ps)) own ∙ fill_own y (p + 4) ps bytes (f.0, f.1.1, f.2)

-- bytes stay bytes when they are filled
pub fill_bytes : (y ps ns : List ℕ) → AreBytes y → AreBytes (fill y ps ns)
fill_bytes y [] ns bytes = bytes
fill_bytes y (p ∷ ps) [] bytes = bytes
fill_bytes y (p ∷ ps) (n ∷ ns) bytes = fill_bytes (put_four y (4 + p) n) ps ns (put_bytes y (4 + p) n bytes)

-- a record that was filled has the blank that it had
pub blank_fill : (r places ns : List ℕ) → HasPlaces r places → blank (fill r places ns) places ≡ blank r places
blank_fill r places ns has =
    rw (blank_is_fill (fill r places ns) places, blank_is_fill r places) (fill_twice r 0 places ns (zeros places) (fits r places has) (zeros_each places))

-- a record that is blanked stays as it is
pub blank_again : (r places : List ℕ) → HasPlaces r places → blank (blank r places) places ≡ blank r places
blank_again r places has = ap (λ (x : List ℕ). blank x places) (blank_is_fill r places) ∙ blank_fill r places (zeros places) has
