-- Parts one after the other: what is met in the first of them, and what in the others.
use Rattle.std.proofs.Common.{◌≡◌, ℕ, zero, suc, ◌+◌, ◌-◌, ◌<◌, ◌≤◌, Bool, true, false, cond, List, [], ◌∷◌, ◌++◌, None, Some, refl, sym, ap, ◌∙◌, arith, inl, inr}
use Rattle.std.proofs.lemmas.Bool.{cases_lt, lt-ltb, le-ltb}
use Rattle.std.proofs.lemmas.List.{append-nil}
use Rattle.byte_fields.specs.Check.{Check, first_failing}
use Rattle.byte_fields.proofs.CheckLaws.{first_failing-append_none, first_failing-append_some, first_failing-parts}
use Rattle.byte_fields.specs.Number.{number_at}
use Rattle.cv_leaves.specs.Attributes.{points_to_member, introduces}
use Rattle.cv_leaves.specs.Member.{member_end, member_places, member_checks}
use Rattle.cv_leaves.specs.Part.{part_end, part_checks, part_places, extent_checks, collect, each_part}
use Rattle.cv_leaves.specs.Checks.{checks_from, places_from, rest_checks, rest_places}
use Rattle.cv_leaves.proofs.MemberLaws.{member_forward}
use Rattle.cv_leaves.specs.declared.leaf.Rest.{Rest}
use Rattle.cv_leaves.specs.declared.leaf.Rest.TheVariants.{Nothing, Containing, Indices, Methods, Members}
use Rattle.cv_leaves.specs.declared.fault.LeafFault.{LeafFault}

-- ---- parts of any kind

-- each part ends after its beginning
abbrev pub Forward : (ℕ → ℕ) → Type 0
Forward end = (at : ℕ) → at < end at

-- nothing is met where the parts have reached their stop
collect_past : {X : Type 0} (end : ℕ → ℕ) (here : ℕ → List X) (stop n at : ℕ) → stop ≤ at → collect end here stop n at ≡ []
unfolding collect
collect_past end here stop zero at past = refl
collect_past end here stop (suc n) at past = rw (le-ltb at stop past) refl

-- the first of at most n + 1 parts
collect_here : {X : Type 0} (end : ℕ → ℕ) (here : ℕ → List X) (stop n at : ℕ) → at < stop → collect end here stop (suc n) at ≡ here at ++ collect end here stop n (end at)
unfolding collect
collect_here end here stop n at below = rw (lt-ltb at stop below) refl

-- how many parts are allowed doesn't matter, if there are enough for each byte
collect_enough : {X : Type 0} (end : ℕ → ℕ) (here : ℕ → List X) (stop m n at : ℕ) → Forward end → stop - at ≤ m → stop - at ≤ n → collect end here stop m at ≡ collect end here stop n at
collect_enough end here stop zero n at forward le ge = collect_past end here stop zero at (omega arith) ∙ sym (collect_past end here stop n at (omega arith))
collect_enough end here stop (suc m) zero at forward le ge = collect_past end here stop (suc m) at (omega arith) ∙ sym (collect_past end here stop zero at (omega arith))
collect_enough {X = X} end here stop (suc m) (suc n) at forward le ge =
    let rest = collect_enough end here stop m n (end at) forward (omega (arith, forward at)) (omega (arith, forward at)) in
    elim (cases_lt at stop) [
      | inl below ↦ collect_here end here stop m at below ∙ ap (λ (xs : List X). here at ++ xs) rest ∙ sym (collect_here end here stop n at below)
      | inr past ↦ collect_past end here stop (suc m) at past ∙ sym (collect_past end here stop (suc n) at past)
    ]

-- no part begins at the stop or after it
pub each_part_past : {X : Type 0} (end : ℕ → ℕ) (here : ℕ → List X) (stop at : ℕ) → stop ≤ at → each_part end here stop at ≡ []
unfolding each_part
each_part_past end here stop at past = collect_past end here stop (stop - at) at past

-- the first part before the stop, and the others
pub each_part_here : {X : Type 0} (end : ℕ → ℕ) (here : ℕ → List X) (stop at : ℕ) → Forward end → at < stop → each_part end here stop at ≡ here at ++ each_part end here stop (end at)
unfolding each_part
each_part_here {X = X} end here stop at forward below =
    let more : stop - at ≡ suc (stop - at - 1) = omega arith in
    let others = collect_enough end here stop (stop - at - 1) (stop - end at) (end at) forward (omega (arith, forward at)) (omega arith) in
    rw more (collect_here end here stop (stop - at - 1) at below ∙ ap (λ (xs : List X). here at ++ xs) others)

-- ---- the parts of a leaf

-- a choice between two ends goes forward if both do
either_forward : (b : Bool) (at long short : ℕ) → at < at + long → at < at + short → at < cond b (at + long) (at + short)
either_forward true at long short l s = l
either_forward false at long short l s = s

-- each part of a leaf ends after its beginning
pub part_forward : (rest : Rest) (body : List ℕ) → Forward (part_end rest body)
unfolding part_end
part_forward Nothing body at = omega arith
part_forward Containing body at = either_forward (points_to_member (number_at 4 body at)) at 8 4 (omega arith) (omega arith)
part_forward Indices body at = omega arith
part_forward Methods body at = either_forward (introduces (number_at 2 body at)) at 12 8 (omega arith) (omega arith)
part_forward Members body at = member_forward body at

-- there is nothing to check where the parts have reached their stop
pub no_checks : (rest : Rest) (body : List ℕ) (stop at : ℕ) → stop ≤ at → first_failing (checks_from rest body stop at) ≡ None
no_checks rest body stop at past = rw (each_part_past (part_end rest body) (part_checks rest body) stop at past) refl

-- there are no places where the parts have reached their stop
pub no_places : (rest : Rest) (body : List ℕ) (stop at : ℕ) → stop ≤ at → places_from rest body stop at ≡ []
no_places rest body stop at past = each_part_past (part_end rest body) (part_places rest body) stop at past

-- the places of the first part, and those of the others
pub places_here : (rest : Rest) (body : List ℕ) (stop at : ℕ) → at < stop → places_from rest body stop at ≡ part_places rest body at ++ places_from rest body stop (part_end rest body at)
places_here rest body stop at below = each_part_here (part_end rest body) (part_places rest body) stop at (part_forward rest body) below

-- a fault of the first part is the first one
pub fault_here : (rest : Rest) (body : List ℕ) (stop at : ℕ) (e : LeafFault) → at < stop → first_failing (part_checks rest body at) ≡ Some e → first_failing (checks_from rest body stop at) ≡ Some e
fault_here rest body stop at e below fails =
    rw (each_part_here (part_end rest body) (part_checks rest body) stop at (part_forward rest body) below)
    (first_failing-append_some (part_checks rest body at) (checks_from rest body stop (part_end rest body at)) e fails)

-- if the first part has no fault, the first fault is that of the others
pub held_here : (rest : Rest) (body : List ℕ) (stop at : ℕ) → at < stop → first_failing (part_checks rest body at) ≡ None
    → first_failing (checks_from rest body stop at) ≡ first_failing (checks_from rest body stop (part_end rest body at))
held_here rest body stop at below held =
    rw (each_part_here (part_end rest body) (part_checks rest body) stop at (part_forward rest body) below)
    (first_failing-append_none (part_checks rest body at) (checks_from rest body stop (part_end rest body at)) held)

-- a fault of a first member is the first one
pub member_fault : (body : List ℕ) (stop at : ℕ) (e : LeafFault) → at < stop → first_failing (member_checks body at) ≡ Some e → first_failing (checks_from Members body stop at) ≡ Some e
unfolding part_checks
member_fault body stop at e below fails = fault_here Members body stop at e below fails

-- if it has no fault, the first fault is that of the others
pub member_held : (body : List ℕ) (stop at : ℕ) → at < stop → first_failing (member_checks body at) ≡ None → first_failing (checks_from Members body stop at) ≡ first_failing (checks_from Members body stop (member_end body at))
unfolding part_checks part_end
member_held body stop at below held = held_here Members body stop at below held

-- if no part has a fault, the first part has none
pub holds_here : (rest : Rest) (body : List ℕ) (stop at : ℕ) → at < stop → first_failing (checks_from rest body stop at) ≡ None → first_failing (part_checks rest body at) ≡ None
holds_here rest body stop at below held =
    (first_failing-parts (part_checks rest body at) (checks_from rest body stop (part_end rest body at))
    (rw (each_part_here (part_end rest body) (part_checks rest body) stop at (part_forward rest body) below) at held)).0

-- ---- what follows the fixed places

-- where nothing follows, there is no check
pub checks_nothing : (body : List ℕ) → first_failing (rest_checks Nothing body) ≡ None
unfolding rest_checks extent_checks
checks_nothing body = no_checks Nothing body 0 0 (omega arith)

-- and no place
pub places_nothing : (body : List ℕ) → rest_places Nothing body ≡ []
unfolding rest_places
places_nothing body = no_places Nothing body 0 0 (omega arith)

-- the attributes of a pointer reach the stop, with a containing class or without
past_pointer : (b : Bool) → 8 ≤ cond b 12 8
past_pointer true = omega arith
past_pointer false = omega arith

-- so they are the only part
pointer_part : {X : Type 0} (here : ℕ → List X) (body : List ℕ) → each_part (part_end Containing body) here 8 4 ≡ here 4
unfolding part_end
pointer_part {X = X} here body =
    each_part_here (part_end Containing body) here 8 4 (part_forward Containing body) (omega arith)
    ∙ ap (λ (xs : List X). here 4 ++ xs) (each_part_past (part_end Containing body) here 8 (part_end Containing body 4) (past_pointer (points_to_member (number_at 4 body 4))))
    ∙ append-nil (here 4)

-- the checks of that part are all
pub checks_containing : (body : List ℕ) → first_failing (rest_checks Containing body) ≡ first_failing (part_checks Containing body 4)
unfolding rest_checks extent_checks
checks_containing body = ap first_failing (pointer_part (part_checks Containing body) body)

-- a pointer to a member names its class
pub places_containing : (body : List ℕ) → points_to_member (number_at 4 body 4) ≡ true → rest_places Containing body ≡ 8 ∷ []
unfolding rest_places part_places
places_containing body points = pointer_part (part_places Containing body) body ∙ rw points refl

-- and no other pointer does
pub no_containing : (body : List ℕ) → points_to_member (number_at 4 body 4) ≡ false → rest_places Containing body ≡ []
unfolding rest_places part_places
no_containing body points = pointer_part (part_places Containing body) body ∙ rw points refl

-- ---- the places of a part

-- an index is a place
pub index_place : (body : List ℕ) (at : ℕ) → at ∷ [] ≡ part_places Indices body at
unfolding part_places
index_place body at = refl

-- an entry of a method list has one place
pub entry_place : (body : List ℕ) (at : ℕ) → (at + 4) ∷ [] ≡ part_places Methods body at
unfolding part_places
entry_place body at = refl

-- the places of a member
pub member_place : (body : List ℕ) (at : ℕ) → member_places body at ≡ part_places Members body at
unfolding part_places
member_place body at = refl

-- ---- checks and others after them

-- checks that hold, and those after them
pub append_held : (front back : List (Check LeafFault)) → first_failing front ≡ None → first_failing (front ++ back) ≡ first_failing back
append_held front back held = first_failing-append_none front back held

-- a check that fails, and those after it
pub append_fails : (front back : List (Check LeafFault)) (e : LeafFault) → first_failing front ≡ Some e → first_failing (front ++ back) ≡ Some e
append_fails front back e fails = first_failing-append_some front back e fails
