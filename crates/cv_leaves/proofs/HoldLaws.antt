-- Where a record has places, its checks hold, and these are the places that are met.
use Rattle.std.proofs.Common.{◌≡◌, ◌≤◌, ◌+◌, ◌++◌, ℕ, List, [], ◌∷◌, Some, None, length, map, drop, refl, sym, ap, arith, ◌∙◌, inl, true, false, Bool}
use Rattle.std.specs.List.{concat, AllByRecursion}
use Rattle.std.proofs.lemmas.List.{length-append, length-drop, append_assoc}
use Rattle.byte_fields.specs.Check.{first_failing}
use Rattle.byte_fields.specs.Number.{number_at}
use Rattle.byte_fields.proofs.CheckLaws.{first_failing-append_none}
use Rattle.cv_leaves.specs.Field.{field_checks}
use Rattle.cv_leaves.specs.Attributes.{points_to_member, introduces}
use Rattle.cv_leaves.specs.Part.{rest_start, stop_of, extent_checks, part_end, part_places, part_checks}
use Rattle.cv_leaves.specs.Checks.{body_of, fixed_checks, rest_checks, record_checks, checks_from, places_from, places_of}
use Rattle.cv_leaves.specs.Place.{IsPart, AreParts, HasParts, HasPlaces, IsChecked}
use Rattle.cv_leaves.specs.declared.leaf.Rest.{Rest}
use Rattle.cv_leaves.specs.declared.leaf.Rest.TheVariants.{Nothing, Containing, Indices, Methods, Members}
use Rattle.cv_leaves.specs.declared.fault.LeafFault.{LeafFault}
use Rattle.cv_leaves.proofs.TextLaws.{text_inside, text_behind, number_of_text, no_bytes, fits_holds}
use Rattle.cv_leaves.proofs.MemberHoldLaws.{Unpadded, unpadded, member_holds}
use Rattle.cv_leaves.proofs.PartLaws.{no_checks, no_places, places_here, held_here}
use Rattle.cv_leaves.proofs.RecordLaws.{checks_of_leaf, places_split}

-- ---- one part

-- the part at `at` passes its checks, has this length, and has these places
abbrev Holds : Rest → List ℕ → ℕ → ℕ → List ℕ → Type 0
Holds rest body at len here =
    (first_failing (part_checks rest body at) ≡ None) × (part_end rest body at ≡ at + len) × (part_places rest body at ≡ map (λ k. at + k) here)

-- the attributes of a pointer, by whether it points to a member
containing_holds : (body : List ℕ) (at : ℕ) (t back here : List ℕ) (b : Bool) → points_to_member (number_at 4 t 0) ≡ b → drop at body ≡ t ++ back → IsPart Containing t here → Holds Containing body at (length t) here
unfolding part_checks part_end part_places
containing_holds body at t back here true e is part =
    let p : (length t ≡ 8) × (here ≡ 4 ∷ []) = rw e at part in
    let inside = text_inside body at t back is (omega (arith, p.0)) in
    let n : points_to_member (number_at 4 body at) ≡ true = ap points_to_member (number_of_text 4 body at t back is (omega (arith, p.0))) ∙ e in
    rw (n, p.0, p.1)
    (first_failing-append_none (field_checks body at 4) (field_checks body (at + 4) 4) (fits_holds body at 4 (omega (arith, p.0))) ∙ fits_holds body (at + 4) 4 (omega (arith, p.0)), refl, refl)
containing_holds body at t back here false e is part =
    let p : (length t ≡ 4) × (here ≡ []) = rw e at part in
    let inside = text_inside body at t back is (omega (arith, p.0)) in
    let n : points_to_member (number_at 4 body at) ≡ false = ap points_to_member (number_of_text 4 body at t back is (omega (arith, p.0))) ∙ e in
    rw (n, p.0, p.1)
    (first_failing-append_none (field_checks body at 4) [] (fits_holds body at 4 (omega (arith, p.0))), refl, refl)

-- an entry of a method list, by whether it introduces a virtual
entry_holds : (body : List ℕ) (at : ℕ) (t back here : List ℕ) (b : Bool) → introduces (number_at 2 t 0) ≡ b → drop at body ≡ t ++ back → IsPart Methods t here → Holds Methods body at (length t) here
unfolding part_checks part_end part_places
entry_holds body at t back here true e is part =
    let p : (length t ≡ 12) × (here ≡ 4 ∷ []) = rw e at part in
    let inside = text_inside body at t back is (omega (arith, p.0)) in
    let n : introduces (number_at 2 body at) ≡ true = ap introduces (number_of_text 2 body at t back is (omega (arith, p.0))) ∙ e in
    rw (n, p.0, p.1) (
      first_failing-append_none (field_checks body at 2) (field_checks body (at + 4) 4 ++ field_checks body (at + 8) 4) (fits_holds body at 2 (omega (arith, p.0)))
          ∙ first_failing-append_none (field_checks body (at + 4) 4) (field_checks body (at + 8) 4) (fits_holds body (at + 4) 4 (omega (arith, p.0)))
          ∙ fits_holds body (at + 8) 4 (omega (arith, p.0)),
      refl,
      refl,
    )
entry_holds body at t back here false e is part =
    let p : (length t ≡ 8) × (here ≡ 4 ∷ []) = rw e at part in
    let inside = text_inside body at t back is (omega (arith, p.0)) in
    let n : introduces (number_at 2 body at) ≡ false = ap introduces (number_of_text 2 body at t back is (omega (arith, p.0))) ∙ e in
    rw (n, p.0, p.1) (
      first_failing-append_none (field_checks body at 2) (field_checks body (at + 4) 4 ++ []) (fits_holds body at 2 (omega (arith, p.0)))
          ∙ first_failing-append_none (field_checks body (at + 4) 4) [] (fits_holds body (at + 4) 4 (omega (arith, p.0))),
      refl,
      refl,
    )

-- an index
index_holds : (body : List ℕ) (at : ℕ) (t back here : List ℕ) → drop at body ≡ t ++ back → IsPart Indices t here → Holds Indices body at (length t) here
unfolding part_checks part_end part_places
index_holds body at t back here is part =
    let inside = text_inside body at t back is (omega (arith, part.0)) in
    let zero_more : at + 0 ≡ at = omega arith in
    rw (part.0, part.1, zero_more) (fits_holds body at 4 (omega (arith, part.0)), refl, refl)

-- a member of a field list that no padding follows
members_hold : (body : List ℕ) (at : ℕ) (t back here : List ℕ) → drop at body ≡ t ++ back → Unpadded back → IsPart Members t here → Holds Members body at (length t) here
unfolding part_checks part_end part_places
members_hold body at t back here is unpadded part = member_holds body at t back here is unpadded part

-- what may follow a part: anything, but no padding after a member, because it would belong to the member
abbrev Follows : Rest → List ℕ → Type 0
Follows Members back = Unpadded back
Follows _ back = Unit {0}

-- what is a part passes its checks
part_holds : (rest : Rest) (body : List ℕ) (at : ℕ) (t back here : List ℕ) → drop at body ≡ t ++ back → Follows rest back → IsPart rest t here → Holds rest body at (length t) here
part_holds Nothing body at t back here is follows part = absurd part
part_holds Containing body at t back here is follows part = containing_holds body at t back here (points_to_member (number_at 4 t 0)) refl is part
part_holds Indices body at t back here is follows part = index_holds body at t back here is part
part_holds Methods body at t back here is follows part = entry_holds body at t back here (introduces (number_at 2 t 0)) refl is part
part_holds Members body at t back here is follows part = members_hold body at t back here is follows part

-- ---- all parts

-- how far parts reach: members, to the end of the body
abbrev Reaches : Rest → List ℕ → ℕ → Type 0
Reaches Members body stop = length body ≤ stop
Reaches _ body stop = Unit {0}

-- the parts of a leaf reach their stop
stop_reaches : (rest : Rest) (body : List ℕ) → Reaches rest body (stop_of rest body)
stop_reaches Members body = omega arith
stop_reaches Nothing body = tt
stop_reaches Containing body = tt
stop_reaches Indices body = tt
stop_reaches Methods body = tt

-- after a member comes the next one, or nothing
pub member_follows : (body : List ℕ) (stop at : ℕ) (t : List ℕ) (ts : List (List ℕ)) (back others : List ℕ) → drop at body ≡ t ++ (concat ts ++ back) → length body ≤ stop → AreParts Members stop (at + length t) ts others → Unpadded (concat ts ++ back)
member_follows body stop at t [] back others is reaches parts =
    let none : length back ≤ 0 = omega (arith, reaches, parts.0, length-drop at body, ap length is, length-append t back) in
    rw (no_bytes back none) (inl (omega arith))
member_follows body stop at t (u ∷ us) back others is reaches parts =
    rw (append_assoc u (concat us) back) (unpadded u parts.1.0 (concat us ++ back) parts.1.2)

-- what follows a part may follow it
part_follows : (rest : Rest) (body : List ℕ) (stop at : ℕ) (t : List ℕ) (ts : List (List ℕ)) (back others : List ℕ) → drop at body ≡ t ++ (concat ts ++ back) → Reaches rest body stop → AreParts rest stop (at + length t) ts others
    → Follows rest (concat ts ++ back)
part_follows Members body stop at t ts back others is reaches parts = member_follows body stop at t ts back others is reaches parts
part_follows Nothing body stop at t ts back others is reaches parts = tt
part_follows Containing body stop at t ts back others is reaches parts = tt
part_follows Indices body stop at t ts back others is reaches parts = tt
part_follows Methods body stop at t ts back others is reaches parts = tt

-- parts pass their checks, and their places are those that are met
parts_hold : (rest : Rest) (body : List ℕ) (stop at : ℕ) (texts : List (List ℕ)) (back places : List ℕ) → drop at body ≡ concat texts ++ back → Reaches rest body stop → AreParts rest stop at texts places
    → (first_failing (checks_from rest body stop at) ≡ None) × (places ≡ places_from rest body stop at)
parts_hold rest body stop at [] back places is reaches parts = (no_checks rest body stop at parts.0, parts.1 ∙ sym (no_places rest body stop at parts.0))
parts_hold rest body stop at (t ∷ ts) back places is reaches parts =
    let here = parts.1.0 in
    let others = parts.1.1 in
    let all : drop at body ≡ t ++ (concat ts ++ back) = is ∙ append_assoc t (concat ts) back in
    let holds = part_holds rest body at t (concat ts ++ back) here all (part_follows rest body stop at t ts back others all reaches parts.1.3) parts.1.2 in
    let next : drop (at + length t) body ≡ concat ts ++ back = text_behind body at (at + length t) t (concat ts ++ back) all refl in
    let later = parts_hold rest body stop (at + length t) ts back others next reaches parts.1.3 in (
      held_here rest body stop at parts.0 holds.0 ∙ ap (λ (k : ℕ). first_failing (checks_from rest body stop k)) holds.1 ∙ later.0,
      rw (places_here rest body stop at parts.0, holds.1, holds.2, ← later.1) parts.1.4,
    )

-- ---- the record

-- fixed places that lie within the body pass their checks
fixed_holds : (body places : List ℕ) → AllByRecursion (λ p. p + 4 ≤ length body) places → first_failing (fixed_checks body places) ≡ None
unfolding fixed_checks
fixed_holds body [] each = refl
fixed_holds body (p ∷ ps) each = first_failing-append_none (field_checks body p 4) (fixed_checks body ps) (fits_holds body p 4 each.0) ∙ fixed_holds body ps each.1

-- the field that says how far the parts reach passes its checks
extent_holds : (rest : Rest) (body : List ℕ) → rest_start rest ≤ length body → first_failing (extent_checks rest body) ≡ None
unfolding extent_checks
extent_holds Nothing body starts = refl
extent_holds Containing body starts = refl
extent_holds Indices body starts = fits_holds body 0 4 starts
extent_holds Methods body starts = refl
extent_holds Members body starts = refl

-- all that follows the fixed places passes its checks
rest_holds : (rest : Rest) (body places : List ℕ) → HasParts rest body places → first_failing (rest_checks rest body) ≡ None
unfolding rest_checks
rest_holds rest body places has =
    first_failing-append_none (extent_checks rest body) (checks_from rest body (stop_of rest body) (rest_start rest)) (extent_holds rest body has.starts)
    ∙ (parts_hold rest body (stop_of rest body) (rest_start rest) has.pieces has.back places has.parts (stop_reaches rest body) has.parts_are).0

-- a record that has these places passes its checks
has_holds : (r places : List ℕ) → HasPlaces r places → first_failing (record_checks r) ≡ None
has_holds r places has =
    rw (checks_of_leaf r has.leaf (sym has.kind))
    (first_failing-append_none (fixed_checks (body_of r) has.leaf.places) (rest_checks has.leaf.rest (body_of r)) (fixed_holds (body_of r) has.leaf.places has.fixed)
    ∙ rest_holds has.leaf.rest (body_of r) has.others has.rest)

-- a record that has places has its length and its kind
pub checked_long : (r : List ℕ) → IsChecked r → 4 ≤ length r
checked_long r checked = checked.1.long

-- a record that has places passes its checks
pub checks_hold : (r : List ℕ) → IsChecked r → first_failing (record_checks r) ≡ None
checks_hold r checked = has_holds r checked.0 checked.1

-- a record that has places is not refused
pub not_refused : (r places : List ℕ) (fault : LeafFault) → HasPlaces r places → first_failing (record_checks r) ≡ Some fault → ⊥
not_refused r places fault has fails = let holds = has_holds r places has in cc

-- the places of a record are those that are met
pub places_met : (r places : List ℕ) → HasPlaces r places → places ≡ places_of r
places_met r places has =
    has.places_are
    ∙ ap (λ (xs : List ℕ). has.leaf.places ++ xs) (parts_hold has.leaf.rest (body_of r) (stop_of has.leaf.rest (body_of r)) (rest_start has.leaf.rest) has.rest.pieces has.rest.back has.others has.rest.parts (stop_reaches has.leaf.rest (body_of r)) has.rest.parts_are).1
    ∙ sym (places_split r has.leaf (sym has.kind))

-- a record has one list of places
pub one_places : (r ps qs : List ℕ) → HasPlaces r ps → HasPlaces r qs → ps ≡ qs
one_places r ps qs has_p has_q = places_met r ps has_p ∙ sym (places_met r qs has_q)
