-- Records that pass their checks make types, and records that make types pass them.
use Rattle.std.proofs.Common.{◌≡◌, ◌≤◌, ◌<◌, ◌+◌, ℕ, zero, suc, Bool, true, false, cond, List, [], ◌∷◌, Option, Some, None, length, map, get_or, refl, ◌∙◌, subst, arith, inl, inr}
use Rattle.std.specs.Prelude.{nat_lt}
use Rattle.std.proofs.lemmas.Bool.{cases_lt, lt-ltb, le-ltb, ltb-true}
use Rattle.std.specs.List.{AllByRecursion, flat_map}
use Rattle.byte_fields.specs.Check.{Check, first_failing}
use Rattle.byte_fields.proofs.CheckLaws.{first_failing-append_none, first_failing-append_some, first_failing-parts, check_held}
use Rattle.cv_leaves.specs.Checks.{record_checks, places_of}
use Rattle.cv_leaves.specs.Place.{IsChecked}
use Rattle.cv_leaves.specs.declared.fault.LeafFault.{LeafFault}
use Rattle.tpi_records.specs.Records.{IsRecord}
use Rattle.cv_leaves.proofs.FoundLaws.{places_found}
use Rattle.cv_leaves.proofs.HoldLaws.{checks_hold}
use Rattle.cv_leaves.specs.References.{reference_at, references}
use Rattle.type_trees.specs.Tree.{IsRanked, NamesLower}
use Rattle.type_trees.specs.Types.{AreTypes, NamesThere}
use Rattle.checked_types.specs.Check.{AllNameThere, leaf_check, reference_check, reference_checks, type_checks, type_checks_from, checks_of}
use Rattle.checked_types.specs.declared.fault.RecordFault.{RecordFault}
use Rattle.checked_types.specs.declared.fault.RecordFault.TheVariants as fault
use Rattle.tpi_records.specs.Header.{first_index}

-- ---- The leaf

-- where a check of a leaf holds and those after it hold, the checks of its record hold
leaf_one : (b : Bool) (e : LeafFault) (f : RecordFault) (r : Option LeafFault) (s : Option RecordFault) → (r ≡ None → s ≡ None) → cond b r (Some e) ≡ None → cond b s (Some f) ≡ None
leaf_one true e f r s h held = h held
leaf_one false e f r s h held = absurd cc

-- the checks of a leaf hold as checks of its record
leaf_holds : (position : ℕ) (checks : List (Check LeafFault)) → first_failing checks ≡ None → first_failing (map (leaf_check position) checks) ≡ None
leaf_holds position [] held = refl
leaf_holds position (c ∷ cs) held =
    leaf_one c.holds c.fault (fault.Leaf (first_index + position) c.fault) (first_failing cs) (first_failing (map (leaf_check position) cs)) (λ e. leaf_holds position cs e) held

-- where a check of a leaf or one after it fails, the record has the fault of that check
leaf_other : (b : Bool) (position : ℕ) (here e : LeafFault) (r : Option LeafFault) (s : Option RecordFault) → (r ≡ Some e → s ≡ Some (fault.Leaf (first_index + position) e)) → cond b r (Some here) ≡ Some e
    → cond b s (Some (fault.Leaf (first_index + position) here)) ≡ Some (fault.Leaf (first_index + position) e)
leaf_other true position here e r s h fails = h fails
leaf_other false position here e r s h fails = let same : here ≡ e = cc in rw same refl

-- the first check of a leaf that fails is the first that fails as a check of its record
leaf_fails : (position : ℕ) (checks : List (Check LeafFault)) (e : LeafFault) → first_failing checks ≡ Some e → first_failing (map (leaf_check position) checks) ≡ Some (fault.Leaf (first_index + position) e)
leaf_fails position [] e fails = absurd cc
leaf_fails position (c ∷ cs) e fails =
    leaf_other c.holds position c.fault e (first_failing cs) (first_failing (map (leaf_check position) cs)) (λ f. leaf_fails position cs e f) fails

-- where a check of a record holds and those after it hold, the checks of its leaf hold
leaf_back : (b : Bool) (e : LeafFault) (f : RecordFault) (r : Option LeafFault) (s : Option RecordFault) → (s ≡ None → r ≡ None) → cond b s (Some f) ≡ None → cond b r (Some e) ≡ None
leaf_back true e f r s h held = h held
leaf_back false e f r s h held = absurd cc

-- the checks that hold as checks of a record hold as checks of its leaf
leaf_held : (position : ℕ) (checks : List (Check LeafFault)) → first_failing (map (leaf_check position) checks) ≡ None → first_failing checks ≡ None
leaf_held position [] held = refl
leaf_held position (c ∷ cs) held =
    leaf_back c.holds c.fault (fault.Leaf (first_index + position) c.fault) (first_failing cs) (first_failing (map (leaf_check position) cs)) (λ e. leaf_held position cs e) held

-- the fault of a leaf is the fault of its record
pub leaf_refused : (many position : ℕ) (r : List ℕ) (e : LeafFault) → first_failing (record_checks r) ≡ Some e → first_failing (type_checks many position r) ≡ Some (fault.Leaf (first_index + position) e)
unfolding type_checks
leaf_refused many position r e fails =
    first_failing-append_some (map (leaf_check position) (record_checks r)) (reference_checks many position r (places_of r)) (fault.Leaf (first_index + position) e) (leaf_fails position (record_checks r) e fails)

-- if the leaf has no fault, the first fault is that of the references
pub references_left : (many position : ℕ) (r : List ℕ) → first_failing (record_checks r) ≡ None → first_failing (type_checks many position r) ≡ first_failing (reference_checks many position r (places_of r))
unfolding type_checks
references_left many position r held =
    first_failing-append_none (map (leaf_check position) (record_checks r)) (reference_checks many position r (places_of r)) (leaf_holds position (record_checks r) held)

-- ---- References

-- if the first reference passes, the first fault is that of the others
pub reference_held : (many position : ℕ) (r : List ℕ) (place : ℕ) (left others : List ℕ) → left ≡ place ∷ others → reference_at r place < first_index + many
    → first_failing (reference_checks many position r left) ≡ first_failing (reference_checks many position r others)
unfolding reference_checks
reference_held many position r place left others split there = rw (split, lt-ltb (reference_at r place) (first_index + many) there) refl

-- where the first reference fails, it is the fault
pub reference_fails : (many position : ℕ) (r : List ℕ) (place : ℕ) (left others : List ℕ) → left ≡ place ∷ others → first_index + many ≤ reference_at r place
    → first_failing (reference_checks many position r left) ≡ Some (fault.Ref (first_index + position) place (reference_at r place))
unfolding reference_checks
reference_fails many position r place left others split high = rw (split, le-ltb (reference_at r place) (first_index + many) high) refl

-- no references have no fault
pub no_references : (many position : ℕ) (r left : List ℕ) → left ≡ [] → first_failing (reference_checks many position r left) ≡ None
unfolding reference_checks
no_references many position r left none = rw none refl

-- references that pass their checks are simple or name records
references_there : (many position : ℕ) (r places : List ℕ) → first_failing (reference_checks many position r places) ≡ None → NamesThere many (map (reference_at r) places)
unfolding reference_checks
references_there many position r [] held = tt
references_there many position r (p ∷ ps) held =
    let both = first_failing-parts (reference_check many position r p) (flat_map (reference_check many position r) ps) held in (
      ltb-true (reference_at r p) (first_index + many) (check_held (nat_lt (reference_at r p) (first_index + many)) (fault.Ref (first_index + position) p (reference_at r p)) both.0),
      references_there many position r ps both.1,
    )

-- references that are simple or name records pass their checks
references_pass : (many position : ℕ) (r places : List ℕ) → NamesThere many (map (reference_at r) places) → first_failing (reference_checks many position r places) ≡ None
references_pass many position r [] there = no_references many position r [] refl
references_pass many position r (p ∷ ps) there = reference_held many position r p (p ∷ ps) ps refl there.0 ∙ references_pass many position r ps there.1

-- ---- All records

-- records that have their framing and pass their checks have places and name records
from_found : (many position : ℕ) (records : List (List ℕ)) → AllByRecursion IsRecord records → first_failing (type_checks_from many position records) ≡ None → AllByRecursion IsChecked records × AllNameThere many records
unfolding type_checks_from type_checks references
from_found many position [] framed held = (tt, tt)
from_found many position (r ∷ rs) framed held =
    let both = first_failing-parts (type_checks many position r) (type_checks_from many (position + 1) rs) held in
    let one = first_failing-parts (map (leaf_check position) (record_checks r)) (reference_checks many position r (places_of r)) both.0 in
    let others = from_found many (position + 1) rs framed.1 both.1 in (
      ((places_of r, places_found r framed.0.long (leaf_held position (record_checks r) one.0)), others.0),
      (references_there many position r (places_of r) one.1, others.1),
    )

-- records that have places and name records pass their checks
from_holds : (many position : ℕ) (records : List (List ℕ)) → AllByRecursion IsChecked records → AllNameThere many records → first_failing (type_checks_from many position records) ≡ None
unfolding type_checks_from references
from_holds many position [] checked there = refl
from_holds many position (r ∷ rs) checked there =
    first_failing-append_none (type_checks many position r) (type_checks_from many (position + 1) rs) (references_left many position r (checks_hold r checked.0) ∙ references_pass many position r (places_of r) there.0)
    ∙ from_holds many (position + 1) rs checked.1 there.1

-- records that have their framing and pass their checks have places
pub passed_checked : (records : List (List ℕ)) → AllByRecursion IsRecord records → first_failing (checks_of records) ≡ None → AllByRecursion IsChecked records
passed_checked records framed held = (from_found (length records) 0 records framed held).0

-- records that have their framing and pass their checks name records
pub passed_there : (records : List (List ℕ)) → AllByRecursion IsRecord records → first_failing (checks_of records) ≡ None → AllNameThere (length records) records
passed_there records framed held = (from_found (length records) 0 records framed held).1

-- a reference of lower rank is simple or names a record
ranked_names : (records : List (List ℕ)) (rank : ℕ → ℕ) (i : ℕ) (ns : List ℕ) → AllByRecursion (NamesLower records rank i) ns → AllByRecursion (λ n. n < first_index + length records) ns
ranked_names records rank i [] lower = tt
ranked_names records rank i (n ∷ ns) lower = (elim lower.0 [ inl small ↦ omega (arith, small) | inr low ↦ omega (arith, low.0) ], ranked_names records rank i ns lower.1)

-- what holds at each position holds of all records
pub by_position : (P : List ℕ → Type 0) (records : List (List ℕ)) → ((i : ℕ) → i < length records → P (get_or records i [])) → AllByRecursion P records
by_position P [] each = tt
by_position P (r ∷ rs) each = (each 0 (omega arith), by_position P rs (λ i inside. each (suc i) (omega (arith, inside))))

-- records that make types pass their checks
pub types_hold : (records : List (List ℕ)) → AreTypes records → first_failing (checks_of records) ≡ None
types_hold records types =
    from_holds (length records) 0 records types.checked
    (by_position (λ r. AllByRecursion (λ n. n < first_index + length records) (references r)) records (λ i inside. ranked_names records types.ranked.0 i (references (get_or records i [])) (types.ranked.1 i inside)))

-- records that make types have no fault
pub not_refused : (records : List (List ℕ)) (e : RecordFault) → first_failing (checks_of records) ≡ Some e → AreTypes records → ⊥
not_refused records e fails types = none_some (first_failing (checks_of records)) e (types_hold records types) fails
  where
    none_some : (o : Option RecordFault) (e : RecordFault) → o ≡ None → o ≡ Some e → ⊥
    none_some o e none some = absurd cc

-- ---- Records that name only earlier ones

-- each record names only type indices below its own, where the first record is at this position
abbrev pub LowerFrom : ℕ → List (List ℕ) → Type 0
LowerFrom position [] = Unit {0}
LowerFrom position (r ∷ rs) = AllByRecursion (λ n. n < first_index + position) (references r) × LowerFrom (position + 1) rs

-- a reference below the index of a record is simple or names an earlier record
pub lower_names : (records : List (List ℕ)) (i : ℕ) (ns : List ℕ) → i < length records → AllByRecursion (λ n. n < first_index + i) ns → AllByRecursion (NamesLower records (λ k. k) i) ns
lower_names records i [] inside lower = tt
lower_names records i (n ∷ ns) inside lower = (elim (cases_lt n first_index) [ inl small ↦ inl small | inr large ↦ inr (omega (arith, large, lower.0, inside), omega (arith, large, lower.0)) ], lower_names records i ns inside lower.1)

-- a reference that is simple or names an earlier record is below the index of the record
pub names_lower : (records : List (List ℕ)) (i : ℕ) (ns : List ℕ) → AllByRecursion (NamesLower records (λ k. k) i) ns → AllByRecursion (λ n. n < first_index + i) ns
names_lower records i [] names = tt
names_lower records i (n ∷ ns) names = (elim names.0 [ inl small ↦ omega (arith, small) | inr low ↦ omega (arith, low.1) ], names_lower records i ns names.1)

-- each reference of the record at k is below its index
lower_at : (position : ℕ) (records : List (List ℕ)) (k : ℕ) → LowerFrom position records → k < length records → AllByRecursion (λ n. n < first_index + (position + k)) (references (get_or records k []))
lower_at position [] k lower inside = absurd (omega (arith, inside))
lower_at position (r ∷ rs) zero lower inside = let same : position + 0 ≡ position = omega arith in rw same lower.0
lower_at position (r ∷ rs) (suc k) lower inside =
    let same : position + 1 + k ≡ position + suc k = omega arith in
    subst (λ (p : ℕ). AllByRecursion (λ n. n < first_index + p) (references (get_or rs k []))) same (lower_at (position + 1) rs k lower.1 (omega (arith, inside)))

-- the positions are a rank, if each record names only earlier ones
pub lower_ranked : (records : List (List ℕ)) → LowerFrom 0 records → IsRanked records (λ k. k)
lower_ranked records lower i inside =
    let none : 0 + i ≡ i = omega arith in
    lower_names records i (references (get_or records i [])) inside (subst (λ (p : ℕ). AllByRecursion (λ n. n < first_index + p) (references (get_or records i []))) none (lower_at 0 records i lower inside))

-- ---- Record by record

-- if the first record passes, the first fault is that of the others
pub record_held : (many position : ℕ) (r : List ℕ) (left others : List (List ℕ)) → left ≡ r ∷ others → first_failing (type_checks many position r) ≡ None → first_failing (type_checks_from many position left) ≡ first_failing (type_checks_from many (position + 1) others)
unfolding type_checks_from
record_held many position r left others split held = rw split (first_failing-append_none (type_checks many position r) (type_checks_from many (position + 1) others) held)

-- if the first record fails, its fault is the first one
pub record_fails : (many position : ℕ) (r : List ℕ) (left others : List (List ℕ)) (e : RecordFault) → left ≡ r ∷ others → first_failing (type_checks many position r) ≡ Some e → first_failing (type_checks_from many position left) ≡ Some e
unfolding type_checks_from
record_fails many position r left others e split fails = rw split (first_failing-append_some (type_checks many position r) (type_checks_from many (position + 1) others) e fails)

-- no records have no fault
pub no_records : (many position : ℕ) (left : List (List ℕ)) → left ≡ [] → first_failing (type_checks_from many position left) ≡ None
unfolding type_checks_from
no_records many position left none = rw none refl

-- the references at a record's places are its references
pub own_references : (r places : List ℕ) (P : ℕ → Type 0) → places ≡ places_of r → AllByRecursion P (map (reference_at r) places) → AllByRecursion P (references r)
unfolding references
own_references r places P own each = subst (λ (ps : List ℕ). AllByRecursion P (map (reference_at r) ps)) own each
