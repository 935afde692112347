-- The places at which a record names a record, listed from left to right.
use Rattle.std.proofs.Common.{◌≡◌, ◌≤◌, ◌<◌, ◌+◌, ◌++◌, ℕ, List, [], ◌∷◌, Bool, true, false, map, take, length, Some, None, refl, sym, ap, ◌∙◌, arith}
use Rattle.std.specs.Prelude.{nat_le, ◌↔◌, IsTrue, IfOk, Result, Ok, Err}
use Rattle.std.specs.List.{AllByRecursion}
use Rattle.std.proofs.lemmas.Bool.{lt-ltb, le-ltb, leb-true}
use Rattle.std.proofs.lemmas.List.{append_assoc, append-nil, length-drop}
use Rattle.tpi_records.specs.Header.{first_index}
use Rattle.byte_fields.specs.Check.{first_failing}
use Rattle.byte_fields.proofs.CheckLaws.{first_failing-append_none}
use Rattle.cv_leaves.specs.Field.{field_checks}
use Rattle.cv_leaves.specs.Part.{part_end, part_places, part_checks}
use Rattle.cv_leaves.specs.Leaf.{Leaf, leaf_of}
use Rattle.cv_leaves.specs.Checks.{kind_of, body_of, fixed_checks, leaf_checks, leaf_places, rest_places, places_from, checks_from}
use Rattle.cv_leaves.specs.Place.{IsChecked}
use Rattle.cv_leaves.specs.References.{reference_at}
use Rattle.cv_leaves.specs.Named.{named_at, named_among, named_places}
use Rattle.cv_leaves.specs.declared.leaf.Rest.{Rest}
use Rattle.cv_leaves.proofs.TextLaws.{text_of, text_len}
use Rattle.cv_leaves.specs.declared.leaf.Rest.TheVariants.{Indices}
use Rattle.cv_leaves.specs.declared.fault.LeafFault.TheVariants.{Body}
use Rattle.cv_leaves.proofs.PartLaws.{places_here, part_forward, held_here, fault_here, index_place}
use Rattle.cv_leaves.proofs.RecordLaws.{checks_of_leaf, places_split}
use Rattle.cv_leaves.proofs.FoundLaws.{part_found, places_found}
use Rattle.cv_leaves.proofs.HoldLaws.{checks_hold}
use Rattle.cv_leaves.proofs.PlaceLaws.{part_apart, apart_shift, all_fit}

-- ---- one place

-- the place of a simple reference is left out
pub simple_at : (list : List ℕ) (p to : ℕ) → to < first_index → list ≡ list ++ named_at p to
unfolding named_at
simple_at list p to small = rw (lt-ltb to first_index small) (sym (append-nil list))

-- the place of another one is not
pub other_at : (now list : List ℕ) (p to : ℕ) → first_index ≤ to → now ≡ list ++ p ∷ [] → now ≡ list ++ named_at p to
unfolding named_at
other_at now list p to large is = rw (le-ltb to first_index large) is

-- ---- several places

-- of no places none is listed
pub named-none : (r : List ℕ) → named_among r [] ≡ []
unfolding named_among
named-none r = refl

-- of one place it is that place, if a record is named there
named_one : (r : List ℕ) (p : ℕ) → named_among r (p ∷ []) ≡ named_at p (reference_at r p)
unfolding named_among
named_one r p = append-nil (named_at p (reference_at r p))

-- of places and others after them, those of the first are listed, and then those of the others
named_append : (r ps qs : List ℕ) → named_among r (ps ++ qs) ≡ named_among r ps ++ named_among r qs
unfolding named_among
named_append r [] qs = refl
named_append r (p ∷ ps) qs =
    ap (λ (xs : List ℕ). named_at p (reference_at r p) ++ xs) (named_append r ps qs) ∙ sym (append_assoc (named_at p (reference_at r p)) (named_among r ps) (named_among r qs))

-- one place more
pub listed_more : (r list now left others all : List ℕ) (p : ℕ) → list ++ named_among r left ≡ all → left ≡ p ∷ others → now ≡ list ++ named_at p (reference_at r p) → now ++ named_among r others ≡ all
unfolding named_among
listed_more r list now left others all p so_far split pushed =
    ap (λ (xs : List ℕ). xs ++ named_among r others) pushed ∙ append_assoc list (named_at p (reference_at r p)) (named_among r others)
    ∙ ap (λ (ps : List ℕ). list ++ named_among r ps) (sym split) ∙ so_far

-- no place is left
pub listed_all : (r list left all : List ℕ) → list ++ named_among r left ≡ all → left ≡ [] → list ≡ all
listed_all r list left all so_far none = sym (append-nil list) ∙ ap (λ (xs : List ℕ). list ++ xs) (sym (ap (named_among r) none ∙ named-none r)) ∙ so_far

-- those of the first places are listed, and then those of the others
listed_parts : (r list some now here others : List ℕ) → some ≡ list ++ named_among r here → now ≡ some ++ named_among r others → now ≡ list ++ named_among r (here ++ others)
listed_parts r list some now here others first then =
    then ∙ ap (λ (xs : List ℕ). xs ++ named_among r others) first ∙ append_assoc list (named_among r here) (named_among r others) ∙ ap (λ (xs : List ℕ). list ++ xs) (sym (named_append r here others))

-- the places of one part more
pub listed_part : (r list now all here : List ℕ) (rest : Rest) (body : List ℕ) (stop at : ℕ) → list ++ named_among r (places_from rest body stop at) ≡ all → at < stop → here ≡ part_places rest body at → now ≡ list ++ named_among r here
    → now ++ named_among r (places_from rest body stop (part_end rest body at)) ≡ all
listed_part r list now all here rest body stop at so_far below is listed =
    let others : List ℕ = places_from rest body stop (part_end rest body at) in
    listed_parts r list now (now ++ named_among r others) here others listed refl
    ∙ ap (λ (ps : List ℕ). list ++ named_among r ps) (ap (λ (ps : List ℕ). ps ++ others) is ∙ sym (places_here rest body stop at below)) ∙ so_far

-- the place of one part more that has one place
pub listed_one : (r list now all : List ℕ) (p : ℕ) (rest : Rest) (body : List ℕ) (stop at : ℕ) → list ++ named_among r (places_from rest body stop at) ≡ all → at < stop → p ∷ [] ≡ part_places rest body at → now ≡ list ++ named_at p (reference_at r p)
    → now ++ named_among r (places_from rest body stop (part_end rest body at)) ≡ all
listed_one r list now all p rest body stop at so_far below is listed =
    listed_part r list now all (p ∷ []) rest body stop at so_far below is (listed ∙ ap (λ (xs : List ℕ). list ++ xs) (sym (named_one r p)))

-- the only place
pub listed_single : (r list now places : List ℕ) (p : ℕ) → p ∷ [] ≡ places → now ≡ list ++ named_at p (reference_at r p) → now ≡ list ++ named_among r places
listed_single r list now places p is listed = listed ∙ ap (λ (xs : List ℕ). list ++ xs) (sym (named_one r p) ∙ ap (named_among r) is)

-- no place at all
pub listed_none : (r list places : List ℕ) → places ≡ [] → list ≡ list ++ named_among r places
listed_none r list places none = rw (none, named-none r) (sym (append-nil list))

-- what an answer says, and what follows from it
pub ok_more : {A E : Type 0} (P Q : Type 0) (answer : Result A E) → (P → Q) → IfOk answer (λ _. P) → IfOk answer (λ _. Q)
ok_more P Q (Ok value) more is = more is
ok_more P Q (Err fault) more is = tt

-- the places of a member with no type index
pub member_none : (r list : List ℕ) (at n : ℕ) → n ≡ 0 → list ≡ list ++ named_among r (map (λ k. at + k) (take n (4 ∷ 8 ∷ [])))
member_none r list at n is = rw is (listed_none r list [] refl)

-- with one
pub member_one : (r list now : List ℕ) (at n : ℕ) → n ≡ 1 → now ≡ list ++ named_at (at + 4) (reference_at r (at + 4)) → now ≡ list ++ named_among r (map (λ k. at + k) (take n (4 ∷ 8 ∷ [])))
member_one r list now at n is listed = rw is (listed_single r list now _ (at + 4) refl listed)

-- with two
pub member_two : (r list some now : List ℕ) (at n : ℕ) → n ≡ 2 → some ≡ list ++ named_at (at + 4) (reference_at r (at + 4)) → now ≡ some ++ named_at (at + 8) (reference_at r (at + 8)) → now ≡ list ++ named_among r (map (λ k. at + k) (take n (4 ∷ 8 ∷ [])))
member_two r list some now at n is first second =
    rw is (listed_parts r list some now ((at + 4) ∷ []) ((at + 8) ∷ []) (listed_single r list some _ (at + 4) refl first) (listed_single r some now _ (at + 8) refl second))

-- ---- an argument list

-- an index that fits passes its check
pub index_fits : (body : List ℕ) (stop at : ℕ) → at < stop → nat_le (at + 4) (length body) ≡ true → first_failing (checks_from Indices body stop at) ≡ first_failing (checks_from Indices body stop (at + 4))
unfolding part_end part_checks
index_fits body stop at below fits = held_here Indices body stop at below (rw fits refl)

-- and one that does not fit is a fault
pub index_misses : (body : List ℕ) (stop at : ℕ) → at < stop → nat_le (at + 4) (length body) ≡ false → first_failing (checks_from Indices body stop at) ≡ Some (Body at)
unfolding part_checks
index_misses body stop at below misses = fault_here Indices body stop at (Body at) below (rw misses refl)

-- the place of an index more
pub index_more : (r list now all body : List ℕ) (stop at : ℕ) → list ++ named_among r (places_from Indices body stop at) ≡ all → at < stop → now ≡ list ++ named_at at (reference_at r at) → now ++ named_among r (places_from Indices body stop (at + 4)) ≡ all
unfolding part_end
index_more r list now all body stop at so_far below listed = listed_one r list now all at Indices body stop at so_far below (index_place body at) listed

-- ---- where they lie

-- the length of the body
pub body_long : (r : List ℕ) → 4 ≤ length r → length (body_of r) + 4 ≡ length r
unfolding body_of
body_long r long = omega (arith, length-drop 4 r, long)

-- a place whose four bytes fit the body lies within the record
pub fits_record : (r : List ℕ) (p : ℕ) → 4 ≤ length r → nat_le (p + 4) (length (body_of r)) ≡ true → p + 8 ≤ length r
fits_record r p long fits = omega (arith, leb-true (p + 4) (length (body_of r)) fits, body_long r long)

-- places that lie within `len` bytes, counted from the beginning of a part
from_part : (len at : ℕ) (ks : List ℕ) → AllByRecursion (λ p. p + 8 ≤ len) (map (λ k. at + k) ks) → AllByRecursion (λ k. at + k + 8 ≤ len) ks
from_part len at [] each = tt
from_part len at (k ∷ ks) each = (each.0, from_part len at ks each.1)

-- a fixed place that fits passes its check
pub fixed_more : (body all left others : List ℕ) (p : ℕ) → first_failing (fixed_checks body all) ≡ first_failing (fixed_checks body left) → left ≡ p ∷ others → nat_le (p + 4) (length body) ≡ true
    → first_failing (fixed_checks body all) ≡ first_failing (fixed_checks body others)
unfolding fixed_checks
fixed_more body all left others p so_far split fits = so_far ∙ rw split (first_failing-append_none (field_checks body p 4) (fixed_checks body others) (rw fits refl))

-- the places of a part that passes its checks lie within the record
pub part_inside : (r body ks : List ℕ) (rest : Rest) (at : ℕ) → 4 ≤ length r → body ≡ body_of r → first_failing (part_checks rest body at) ≡ None → map (λ k. at + k) ks ≡ part_places rest body at → AllByRecursion (λ k. at + k + 8 ≤ length r) ks
part_inside r body ks rest at long own held is =
    let end : ℕ = part_end rest body at in
    let part = part_found rest body at held in
    let places : List ℕ = part.1.0 in
    let t : List ℕ = text_of body at end in
    let forward : at < end = part_forward rest body at in
    let reach : at + length t + 4 ≤ length r = omega (arith, text_len body at end (omega (arith, forward)) part.0, part.0, forward, ap length own, body_long r long) in
    from_part (length r) at ks (rw (is, part.1.2) (all_fit (at + 0) (map (λ k. at + k) places) (at + length t) (length r) reach (apart_shift at 0 places (length t) (part_apart rest t places part.1.1))))

-- ---- the answer

-- what an answer says where it is true, and what follows from it
held_more : {E : Type 0} (P Q : Type 0) (answer : Result Bool E) → (P → Q) → IfOk answer (λ held. IsTrue held → P) → IfOk answer (λ held. IsTrue held → Q)
held_more P Q (Ok held) more is = λ yes. more (is yes)
held_more P Q (Err fault) more is = tt

-- after the fixed places of a leaf those that follow are listed
pub leaf_listed : {E : Type 0} (r list some now : List ℕ) (l : Leaf) (body : List ℕ) (answer : Result Bool E) → some ≡ list ++ named_among r l.places
    → IfOk answer (λ held. IsTrue held → now ≡ some ++ named_among r (rest_places l.rest body)) → IfOk answer (λ held. IsTrue held → now ≡ list ++ named_among r (leaf_places l body))
leaf_listed r list some now l body answer first then = held_more _ _ answer (listed_parts r list some now l.places (rest_places l.rest body) first) then

-- those of the leaf of a record are those of the record
pub record_listed : {E : Type 0} (r list now : List ℕ) (l : Leaf) (answer : Result Bool E) → Some l ≡ leaf_of (kind_of r) → list ≡ []
    → IfOk answer (λ held. IsTrue held → now ≡ list ++ named_among r (leaf_places l (body_of r))) → IfOk answer (λ held. IsTrue held → now ≡ named_places r)
unfolding named_places rest_places
record_listed r list now l answer row none listed = held_more _ _ answer (λ is. is ∙ rw (none, places_split r l row) refl) listed

-- if the answer is true where the checks of its leaf hold, then only a record that has places is accepted
pub record_checked : {E : Type 0} (r : List ℕ) (l : Leaf) (answer : Result Bool E) → 4 ≤ length r → Some l ≡ leaf_of (kind_of r) → IfOk answer (λ held. IsTrue held ↔ (first_failing (leaf_checks l (body_of r)) ≡ None)) → IfOk answer (λ held. IsTrue held → IsChecked r)
record_checked r l (Ok held) long row is = λ yes. (_, places_found r long (rw (checks_of_leaf r l row) (is.0 yes)))
record_checked r l (Err fault) long row is = tt

-- and each of them is
pub record_accepted : {E : Type 0} (r : List ℕ) (l : Leaf) (answer : Result Bool E) → Some l ≡ leaf_of (kind_of r) → IfOk answer (λ held. IsTrue held ↔ (first_failing (leaf_checks l (body_of r)) ≡ None)) → IsChecked r → IfOk answer (λ held. IsTrue held)
record_accepted r l (Ok held) row is checked = is.1 (ap first_failing (sym (checks_of_leaf r l row)) ∙ checks_hold r checked)
record_accepted r l (Err fault) row is checked = tt
