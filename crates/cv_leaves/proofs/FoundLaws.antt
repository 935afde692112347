-- Where the checks hold, the record has the places that are met.
use Rattle.std.proofs.Common.{◌≡◌, ◌≤◌, ◌+◌, ◌-◌, ◌++◌, ℕ, zero, suc, List, [], ◌∷◌, Option, Some, None, length, map, drop, refl, sym, ap, arith, ◌∙◌, inl, inr, true, false, Bool}
use Rattle.std.specs.List.{concat, AllByRecursion}
use Rattle.std.proofs.lemmas.Bool.{cases_lt}
use Rattle.std.proofs.lemmas.List.{append_assoc}
use Rattle.byte_fields.specs.Check.{first_failing}
use Rattle.byte_fields.specs.Number.{number_at}
use Rattle.byte_fields.proofs.CheckLaws.{first_failing-parts}
use Rattle.byte_fields.proofs.NumberLaws.{number_at-take}
use Rattle.cv_leaves.specs.Leaf.{Leaf, leaf_of}
use Rattle.cv_leaves.specs.Field.{field_checks}
use Rattle.cv_leaves.specs.Attributes.{points_to_member, introduces}
use Rattle.cv_leaves.specs.Part.{rest_start, stop_of, extent_checks, part_end, part_places, part_checks}
use Rattle.cv_leaves.specs.Checks.{kind_of, body_of, fixed_checks, record_checks, checks_from, places_from, places_of}
use Rattle.cv_leaves.specs.Place.{IsPart, AreParts, HasPlaces}
use Rattle.cv_leaves.specs.declared.leaf.Rest.{Rest}
use Rattle.cv_leaves.specs.declared.leaf.Rest.TheVariants.{Nothing, Containing, Indices, Methods, Members}
use Rattle.cv_leaves.proofs.TextLaws.{text_of, cut, text_len, fits_held}
use Rattle.cv_leaves.proofs.MemberFoundLaws.{member_found}
use Rattle.cv_leaves.proofs.PartLaws.{no_places, places_here, held_here, holds_here, part_forward}
use Rattle.cv_leaves.proofs.RecordLaws.{has_leaf, fixed_held, extent_held, parts_held, places_split}

-- ---- one part

-- what is met at `at` is a part, which ends within the body
abbrev pub IsFound : Rest → List ℕ → ℕ → Type 0
IsFound rest body at = (part_end rest body at ≤ length body)
    × ((here : List ℕ) × IsPart rest (text_of body at (part_end rest body at)) here × (part_places rest body at ≡ map (λ k. at + k) here))

-- the attributes of a pointer, by whether it points to a member
containing_found : (body : List ℕ) (at : ℕ) (b : Bool) → points_to_member (number_at 4 body at) ≡ b → first_failing (part_checks Containing body at) ≡ None → IsFound Containing body at
unfolding part_checks part_end part_places
containing_found body at true e held =
    let all = first_failing-parts (field_checks body at 4) (field_checks body (at + 4) 4) (rw e at held) in
    let inside : at + 8 ≤ length body = omega (arith, fits_held body (at + 4) 4 all.1) in
    let n = number_at-take 4 body at (at + 8 - at) (omega arith) in
    rw e (inside, (4 ∷ [], rw (n, e) (omega (arith, text_len body at (at + 8) (omega arith) inside), refl), refl))
containing_found body at false e held =
    let all = first_failing-parts (field_checks body at 4) [] (rw e at held) in
    let inside : at + 4 ≤ length body = omega (arith, fits_held body at 4 all.0) in
    let n = number_at-take 4 body at (at + 4 - at) (omega arith) in
    rw e (inside, ([], rw (n, e) (omega (arith, text_len body at (at + 4) (omega arith) inside), refl), refl))

-- an entry of a method list, by whether it introduces a virtual
entry_found : (body : List ℕ) (at : ℕ) (b : Bool) → introduces (number_at 2 body at) ≡ b → first_failing (part_checks Methods body at) ≡ None → IsFound Methods body at
unfolding part_checks part_end part_places
entry_found body at true e held =
    let all = first_failing-parts (field_checks body at 2) (field_checks body (at + 4) 4 ++ field_checks body (at + 8) 4) (rw e at held) in
    let back = first_failing-parts (field_checks body (at + 4) 4) (field_checks body (at + 8) 4) all.1 in
    let inside : at + 12 ≤ length body = omega (arith, fits_held body (at + 8) 4 back.1) in
    let n = number_at-take 2 body at (at + 12 - at) (omega arith) in
    rw e (inside, (4 ∷ [], rw (n, e) (omega (arith, text_len body at (at + 12) (omega arith) inside), refl), refl))
entry_found body at false e held =
    let all = first_failing-parts (field_checks body at 2) (field_checks body (at + 4) 4 ++ []) (rw e at held) in
    let back = first_failing-parts (field_checks body (at + 4) 4) [] all.1 in
    let inside : at + 8 ≤ length body = omega (arith, fits_held body (at + 4) 4 back.0) in
    let n = number_at-take 2 body at (at + 8 - at) (omega arith) in
    rw e (inside, (4 ∷ [], rw (n, e) (omega (arith, text_len body at (at + 8) (omega arith) inside), refl), refl))

-- an index
index_found : (body : List ℕ) (at : ℕ) → first_failing (part_checks Indices body at) ≡ None → IsFound Indices body at
unfolding part_checks part_end part_places
index_found body at held =
    let inside = fits_held body at 4 held in
    let zero_more : at + 0 ≡ at = omega arith in
    (inside, (0 ∷ [], (omega (arith, text_len body at (at + 4) (omega arith) inside), refl), rw zero_more refl))

-- where nothing follows, no check holds
nothing_found : (body : List ℕ) (at : ℕ) → first_failing (part_checks Nothing body at) ≡ None → IsFound Nothing body at
unfolding part_checks
nothing_found body at held = absurd cc

-- a member of a field list
members_found : (body : List ℕ) (at : ℕ) → first_failing (part_checks Members body at) ≡ None → IsFound Members body at
unfolding part_checks part_end part_places
members_found body at held = member_found body at held

-- a part whose checks hold is a part
pub part_found : (rest : Rest) (body : List ℕ) (at : ℕ) → first_failing (part_checks rest body at) ≡ None → IsFound rest body at
part_found Nothing body at held = nothing_found body at held
part_found Containing body at held = containing_found body at (points_to_member (number_at 4 body at)) refl held
part_found Indices body at held = index_found body at held
part_found Methods body at held = entry_found body at (introduces (number_at 2 body at)) refl held
part_found Members body at held = members_found body at held

-- ---- all parts

-- the parts from `at` on, at most n of them
parts_found : (rest : Rest) (body : List ℕ) (stop n at : ℕ) → stop - at ≤ n → first_failing (checks_from rest body stop at) ≡ None
    → (texts : List (List ℕ)) × (back : List ℕ) × (drop at body ≡ concat texts ++ back) × AreParts rest stop at texts (places_from rest body stop at)
parts_found rest body stop zero at few held = ([], drop at body, refl, (omega arith, no_places rest body stop at (omega arith)))
parts_found rest body stop (suc n) at few held = elim (cases_lt at stop) [
  | inr past ↦ ([], drop at body, refl, (past, no_places rest body stop at past))
  | inl below ↦
      let end = part_end rest body at in
      let here_held = holds_here rest body stop at below held in
      let part = part_found rest body at here_held in
      let t = text_of body at end in
      let forward = part_forward rest body at in
      let others = parts_found rest body stop n end (omega (arith, forward)) (sym (held_here rest body stop at below here_held) ∙ held) in
      let long : at + length t ≡ end = omega (arith, text_len body at end (omega (arith, forward)) part.0, forward) in
      let whole : drop at body ≡ concat (t ∷ others.0) ++ others.1 =
      cut body at end (omega (arith, forward)) ∙ ap (λ (xs : List ℕ). t ++ xs) others.2 ∙ sym (append_assoc t (concat others.0) others.1) in (
        t ∷ others.0,
        others.1,
        whole,
        (below, (part.1.0, places_from rest body stop end, part.1.1, rw long others.3, places_here rest body stop at below ∙ ap (λ (xs : List ℕ). xs ++ places_from rest body stop end) part.1.2)),
      )
]

-- the parts begin within the body
starts_found : (rest : Rest) (body : List ℕ) → first_failing (extent_checks rest body) ≡ None → first_failing (checks_from rest body (stop_of rest body) (rest_start rest)) ≡ None → rest_start rest ≤ length body
unfolding extent_checks part_end
starts_found Nothing body extent held = omega arith
starts_found Containing body extent held =
    let part = part_found Containing body 4 (holds_here Containing body 8 4 (omega arith) held) in
    let forward = part_forward Containing body 4 in
    omega (arith, part.0, forward)
starts_found Indices body extent held = fits_held body 0 4 extent
starts_found Methods body extent held = omega arith
starts_found Members body extent held = omega arith

-- ---- the record

-- fixed places whose checks hold lie within the body
fixed_found : (body places : List ℕ) → first_failing (fixed_checks body places) ≡ None → AllByRecursion (λ p. p + 4 ≤ length body) places
unfolding fixed_checks
fixed_found body [] held = tt
fixed_found body (p ∷ ps) held =
    let all = first_failing-parts (field_checks body p 4) (fixed_checks body ps) held in
    (fits_held body p 4 all.0, fixed_found body ps all.1)

-- a record that passes its checks, by its leaf
record_found : (r : List ℕ) (o : Option Leaf) → 4 ≤ length r → o ≡ leaf_of (kind_of r) → first_failing (record_checks r) ≡ None → HasPlaces r (places_of r)
record_found r None long is held = absurd (has_leaf r held is)
record_found r (Some l) long is held =
    let body = body_of r in
    let parts_hold = parts_held r l held is in
    let parts = parts_found l.rest body (stop_of l.rest body) (stop_of l.rest body) (rest_start l.rest) (omega arith) parts_hold in
    record {
      long = long;
      leaf = l;
      kind = sym is;
      fixed = fixed_found body l.places (fixed_held r l held is);
      others = places_from l.rest body (stop_of l.rest body) (rest_start l.rest);
      rest = record {
        starts = starts_found l.rest body (extent_held r l held is) parts_hold;
        pieces = parts.0;
        back = parts.1;
        parts = parts.2;
        parts_are = parts.3;
      };
      places_are = places_split r l is;
    }

-- a record that passes its checks has the places that are met in it
pub places_found : (r : List ℕ) → 4 ≤ length r → first_failing (record_checks r) ≡ None → HasPlaces r (places_of r)
places_found r long held = record_found r (leaf_of (kind_of r)) long refl held
