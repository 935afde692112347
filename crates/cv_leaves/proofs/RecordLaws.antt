-- The checks of a record and its places, by its leaf.
use Rattle.std.proofs.Common.{◌≡◌, ◌<◌, ℕ, ◌+◌, ◌++◌, map, List, [], ◌∷◌, Some, None, refl, ap, ◌∙◌, arith, length}
use Rattle.byte_fields.specs.Check.{first_failing}
use Rattle.byte_fields.proofs.CheckLaws.{first_failing-parts}
use Rattle.cv_leaves.specs.Leaf.{Leaf, leaf_of}
use Rattle.cv_leaves.specs.Part.{extent_checks, rest_start, stop_of, part_end, part_places}
use Rattle.cv_leaves.specs.Checks.{kind_of, body_of, record_checks, leaf_checks, fixed_checks, rest_checks, rest_places, checks_from, places_from, places_of}
use Rattle.cv_leaves.specs.declared.leaf.Rest.{Rest}
use Rattle.cv_leaves.specs.declared.fault.LeafFault.TheVariants as fault
use Rattle.cv_leaves.proofs.PartLaws.{places_here}

-- the checks of a record that has a leaf
pub checks_of_leaf : (r : List ℕ) (l : Leaf) → Some l ≡ leaf_of (kind_of r) → record_checks r ≡ leaf_checks l (body_of r)
unfolding record_checks
checks_of_leaf r l is = rw (← is) refl

-- the fault of a record that has none
pub checks_of_no_leaf : (r : List ℕ) → None ≡ leaf_of (kind_of r) → first_failing (record_checks r) ≡ Some (fault.Leaf (kind_of r))
unfolding record_checks
checks_of_no_leaf r is = rw (← is) refl

-- a record that passes its checks has a leaf
pub has_leaf : (r : List ℕ) → first_failing (record_checks r) ≡ None → None ≡ leaf_of (kind_of r) → ⊥
has_leaf r checked none = let fails = checks_of_no_leaf r none in cc

-- its fixed places fit
pub fixed_held : (r : List ℕ) (l : Leaf) → first_failing (record_checks r) ≡ None → Some l ≡ leaf_of (kind_of r) → first_failing (fixed_checks (body_of r) l.places) ≡ None
fixed_held r l checked is = (first_failing-parts (fixed_checks (body_of r) l.places) (rest_checks l.rest (body_of r)) (rw (checks_of_leaf r l is) at checked)).0

-- what follows them passes its checks
rest_held : (r : List ℕ) (l : Leaf) → first_failing (record_checks r) ≡ None → Some l ≡ leaf_of (kind_of r) → first_failing (rest_checks l.rest (body_of r)) ≡ None
rest_held r l checked is = (first_failing-parts (fixed_checks (body_of r) l.places) (rest_checks l.rest (body_of r)) (rw (checks_of_leaf r l is) at checked)).1

-- the field that says how far the parts reach passes its checks
pub extent_held : (r : List ℕ) (l : Leaf) → first_failing (record_checks r) ≡ None → Some l ≡ leaf_of (kind_of r) → first_failing (extent_checks l.rest (body_of r)) ≡ None
unfolding rest_checks
extent_held r l checked is = (first_failing-parts (extent_checks l.rest (body_of r)) (checks_from l.rest (body_of r) (stop_of l.rest (body_of r)) (rest_start l.rest)) (rest_held r l checked is)).0

-- the parts pass their checks
pub parts_held : (r : List ℕ) (l : Leaf) → first_failing (record_checks r) ≡ None → Some l ≡ leaf_of (kind_of r)
    → first_failing (checks_from l.rest (body_of r) (stop_of l.rest (body_of r)) (rest_start l.rest)) ≡ None
unfolding rest_checks
parts_held r l checked is = (first_failing-parts (extent_checks l.rest (body_of r)) (checks_from l.rest (body_of r) (stop_of l.rest (body_of r)) (rest_start l.rest)) (rest_held r l checked is)).1

-- offsets from 0 on are the numbers themselves
pub plus_zero : (ns : List ℕ) → map (λ k. 0 + k) ns ≡ ns
plus_zero [] = refl
plus_zero (n ∷ ns) = let e : 0 + n ≡ n = omega arith in rw e (ap (λ (xs : List ℕ). n ∷ xs) (plus_zero ns))

-- the places of a record are the fixed ones of its leaf and those of the parts
pub places_split : (r : List ℕ) (l : Leaf) → Some l ≡ leaf_of (kind_of r) → places_of r ≡ l.places ++ places_from l.rest (body_of r) (stop_of l.rest (body_of r)) (rest_start l.rest)
unfolding places_of rest_places
places_split r l is = rw (← is) refl

-- the same with the fixed ones counted from 0
pub places_are : (r : List ℕ) (l : Leaf) → Some l ≡ leaf_of (kind_of r)
    → map (λ k. 0 + k) l.places ++ places_from l.rest (body_of r) (stop_of l.rest (body_of r)) (rest_start l.rest) ≡ places_of r
unfolding places_of rest_places
places_are r l is = rw (← is, plus_zero l.places) refl

-- a part with no place is passed over
pub no_places_here : (rest : Rest) (body : List ℕ) (stop at : ℕ) (places : List ℕ) → length places ≡ 0 → at < stop → map (λ k. at + k) places ≡ part_places rest body at
    → places_from rest body stop at ≡ places_from rest body stop (part_end rest body at)
no_places_here rest body stop at [] none below here = places_here rest body stop at below ∙ rw (← here) refl
no_places_here rest body stop at (p ∷ ps) none below here = absurd (omega (arith, none))
