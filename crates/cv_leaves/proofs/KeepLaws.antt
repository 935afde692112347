-- A number that is written at a place of a record leaves its places as they are.
use Rattle.std.proofs.Common.{◌≡◌, ◌<◌, ◌^◌, ◌≤◌, ◌+◌, ◌-◌, ◌*◌, ◌++◌, ℕ, zero, suc, List, [], ◌∷◌, length, map, take, drop, refl, sym, ap, subst, arith, ◌∙◌, inl, inr, true, false, Bool}
use Rattle.std.specs.Prelude.{◌⊎◌}
use Rattle.std.specs.List.{concat, AllByRecursion}
use Rattle.std.proofs.lemmas.List.{length-append, length-take, length-drop, take-append-drop, drop_at}
use Rattle.byte_fields.specs.Number.{number_at}
use Rattle.cv_leaves.specs.Leaf.{leaf_of}
use Rattle.cv_leaves.specs.Attributes.{points_to_member, introduces}
use Rattle.cv_leaves.specs.Part.{rest_start, stop_of}
use Rattle.cv_leaves.specs.Checks.{kind_of, body_of}
use Rattle.cv_leaves.specs.Blank.{put_four}
use Rattle.cv_leaves.specs.Place.{IsPart, AreParts, HasParts, HasPlaces, IsPlace}
use Rattle.cv_leaves.specs.declared.leaf.Rest.{Rest}
use Rattle.cv_leaves.specs.declared.leaf.Rest.TheVariants.{Nothing, Containing, Indices, Methods, Members}
use Rattle.cv_leaves.proofs.MemberLaws.{member_long}
use Rattle.cv_leaves.proofs.HoldLaws.{one_places}
use Rattle.cv_leaves.proofs.PutLaws.{body_read, put_len, two_before, four_before, kind_before, put_front, put_back}
use Rattle.cv_leaves.proofs.PlaceLaws.{Among, among, among_inside, fixed_end, fixed_apart, nothing_follows, places_apart}

-- ---- one part

-- a place of a list of one place is that place
only : (p q : ℕ) → Among p (q ∷ []) → p ≡ q
only p q (inl e) = e
only p q (inr never) = absurd never

-- a number written at a place of a part leaves a part with the same places
abbrev pub PartKeeps : Rest → Type 0
PartKeeps rest = (t here : List ℕ) (p n : ℕ) → IsPart rest t here → Among p here → (p + 4 ≤ length t) × IsPart rest (put_four t p n) here

-- the attributes of a pointer, by whether it points to a member
containing_keeps : (t here : List ℕ) (p n : ℕ) (b : Bool) → points_to_member (number_at 4 t 0) ≡ b → IsPart Containing t here → Among p here → (p + 4 ≤ length t) × IsPart Containing (put_four t p n) here
containing_keeps t here p n true e part in_here =
    let q : (length t ≡ 8) × (here ≡ 4 ∷ []) = rw e at part in
    let is : p ≡ 4 = only p 4 (rw q.1 at in_here) in
    let inside : p + 4 ≤ length t = omega (arith, q.0) in
    (inside, rw (four_before t p n (omega arith) (omega arith), e) (put_len t p n inside ∙ q.0, q.1))
containing_keeps t here p n false e part in_here =
    let q : (length t ≡ 4) × (here ≡ []) = rw e at part in
    absurd (rw q.1 at in_here)

-- an entry of a method list, by whether it introduces a virtual
entry_keeps : (t here : List ℕ) (p n : ℕ) (b : Bool) → introduces (number_at 2 t 0) ≡ b → IsPart Methods t here → Among p here → (p + 4 ≤ length t) × IsPart Methods (put_four t p n) here
entry_keeps t here p n true e part in_here =
    let q : (length t ≡ 12) × (here ≡ 4 ∷ []) = rw e at part in
    let is : p ≡ 4 = only p 4 (rw q.1 at in_here) in
    let inside : p + 4 ≤ length t = omega (arith, q.0) in
    (inside, rw (two_before t p n (omega arith) (omega arith), e) (put_len t p n inside ∙ q.0, q.1))
entry_keeps t here p n false e part in_here =
    let q : (length t ≡ 8) × (here ≡ 4 ∷ []) = rw e at part in
    let is : p ≡ 4 = only p 4 (rw q.1 at in_here) in
    let inside : p + 4 ≤ length t = omega (arith, q.0) in
    (inside, rw (two_before t p n (omega arith) (omega arith), e) (put_len t p n inside ∙ q.0, q.1))

-- an index of an argument list
index_keeps : PartKeeps Indices
index_keeps t here p n part in_here =
    let is : p ≡ 0 = only p 0 (rw part.1 at in_here) in
    let inside : p + 4 ≤ length t = omega (arith, part.0) in
    (inside, (put_len t p n inside ∙ part.0, part.1))

-- no place is in an empty list
nowhere : (i p : ℕ) → Among p (take i []) → ⊥
nowhere zero p in_none = in_none
nowhere (suc i) p in_none = in_none

-- where the indices of a member are
index_place : (i p : ℕ) → Among p (take i (4 ∷ 8 ∷ [])) → (4 ≤ p) × (p ≤ 4 * i)
index_place zero p in_here = absurd in_here
index_place (suc zero) p (inl e) = (omega (arith, e), omega (arith, e))
index_place (suc zero) p (inr in_here) = absurd in_here
index_place (suc (suc i)) p (inl e) = (omega (arith, e), omega (arith, e))
index_place (suc (suc i)) p (inr (inl e)) = (omega (arith, e), omega (arith, e))
index_place (suc (suc i)) p (inr (inr in_here)) = absurd (nowhere i p in_here)

-- a member of a field list: what its indices are doesn't matter
pub member_keeps : PartKeeps Members
member_keeps t here p n part in_here =
    let tail = part.virtual ++ (part.numerics ++ (part.name ++ part.padding)) in
    let place = index_place part.member.indices p (rw part.places_are at in_here) in
    let inside : p + 4 ≤ length t = omega (arith, place.1, member_long t here part) in
    let at : p ≡ length part.front + (p - 4) = omega (arith, place.0, part.front_long) in
    let near : p - 4 + 4 ≤ length part.indices = omega (arith, place.0, place.1, part.indices_long) in
    let bytes : put_four t p n ≡ part.front ++ (put_four part.indices (p - 4) n ++ tail) =
    ap (λ (x : List ℕ). put_four x p n) part.parts
    ∙ ap (λ (k : ℕ). put_four (part.front ++ (part.indices ++ tail)) k n) at
    ∙ put_back part.front (part.indices ++ tail) (p - 4) n
    ∙ ap (λ (x : List ℕ). part.front ++ x) (put_front part.indices tail (p - 4) n near) in
    let kind = two_before t p n (omega (arith, place.0)) (omega (arith, inside)) in
    let attributes = kind_before t p n place.0 (omega (arith, inside)) in (
      inside,
      record {
        member = part.member;
        kind = rw kind part.kind;
        front = part.front;
        indices = put_four part.indices (p - 4) n;
        virtual = part.virtual;
        numerics = part.numerics;
        name = part.name;
        padding = part.padding;
        parts = bytes;
        front_long = part.front_long;
        indices_long = put_len part.indices (p - 4) n near ∙ part.indices_long;
        virtual_long = rw attributes part.virtual_long;
        numerics_are = part.numerics_are;
        name_is = part.name_is;
        padding_is = part.padding_is;
        places_are = part.places_are;
      },
    )

-- each kind of part keeps its places
part_keeps : (rest : Rest) → PartKeeps rest
part_keeps Nothing t here p n part in_here = absurd part
part_keeps Containing t here p n part in_here = containing_keeps t here p n (points_to_member (number_at 4 t 0)) refl part in_here
part_keeps Indices t here p n part in_here = index_keeps t here p n part in_here
part_keeps Methods t here p n part in_here = entry_keeps t here p n (introduces (number_at 2 t 0)) refl part in_here
part_keeps Members t here p n part in_here = member_keeps t here p n part in_here

-- ---- all parts

-- a place of two joined lists is in one of them
among_split : (p : ℕ) (xs ys : List ℕ) → Among p (xs ++ ys) → Among p xs ⊎ Among p ys
among_split p [] ys in_both = inr in_both
among_split p (x ∷ xs) ys (inl e) = inl (inl e)
among_split p (x ∷ xs) ys (inr in_both) = elim (among_split p xs ys in_both) [ inl a ↦ inl (inr a) | inr b ↦ inr b ]

-- a place in a list of places that were moved
among_map : (p at : ℕ) (qs : List ℕ) → Among p (map (λ k. at + k) qs) → (q : ℕ) × (p ≡ at + q) × Among q qs
among_map p at [] in_qs = absurd in_qs
among_map p at (q ∷ qs) (inl e) = (q, e, inl refl)
among_map p at (q ∷ qs) (inr in_qs) = let r = among_map p at qs in_qs in (r.0, r.1, inr r.2)

-- the parts after a number was written at one of their places
record Kept (rest : Rest) (stop at : ℕ) (texts : List (List ℕ)) (places : List ℕ) (p n : ℕ) : Type 0 where
  pub from : at ≤ p
  pub inside : p - at + 4 ≤ length (concat texts)
  pub texts_now : List (List ℕ)
  pub bytes : put_four (concat texts) (p - at) n ≡ concat texts_now
  pub parts_are : AreParts rest stop at texts_now places

-- a number written at a place of parts
parts_keep : (rest : Rest) (stop at : ℕ) (texts : List (List ℕ)) (places : List ℕ) (p n : ℕ) → AreParts rest stop at texts places → Among p places → Kept rest stop at texts places p n
parts_keep rest stop at [] places p n parts in_places = absurd (rw parts.1 at in_places)
parts_keep rest stop at (t ∷ ts) places p n parts in_places =
    let here = parts.1.0 in
    let others = parts.1.1 in
    let whole = length-append t (concat ts) in
    elim (among_split p (map (λ k. at + k) here) others (rw parts.1.4 at in_places)) [
      | inl first ↦
          let q = among_map p at here first in
          let kept = part_keeps rest t here q.0 n parts.1.2 q.2 in
          let back : p - at ≡ q.0 = omega (arith, q.1) in
          let long : length (put_four t q.0 n) ≡ length t = put_len t q.0 n kept.0 in
          record {
            from = omega (arith, q.1);
            inside = omega (arith, back, kept.0, whole);
            texts_now = put_four t q.0 n ∷ ts;
            bytes = rw back (put_front t (concat ts) q.0 n kept.0);
            parts_are = (parts.0, (here, others, kept.1, rw long parts.1.3, parts.1.4));
          }
      | inr later ↦
          let kept = parts_keep rest stop (at + length t) ts others p n parts.1.3 later in
          let back : p - at ≡ length t + (p - (at + length t)) = omega (arith, kept.from) in
          record {
            from = omega (arith, kept.from);
            inside = omega (arith, back, kept.inside, whole);
            texts_now = t ∷ kept.texts_now;
            bytes = rw back (put_back t (concat ts) (p - (at + length t)) n ∙ ap (λ (xs : List ℕ). t ++ xs) kept.bytes);
            parts_are = (parts.0, (here, others, parts.1.2, kept.parts_are, parts.1.4));
          }
    ]

-- ---- the body

-- a number that is written after an offset
put_after : (x : List ℕ) (s q n : ℕ) → s ≤ length x → drop s (put_four x (s + q) n) ≡ put_four (drop s x) q n
put_after x s q n inside =
    let front = take s x in
    let long : length front ≡ s = omega (arith, length-take s x) in
    let all : put_four x (s + q) n ≡ front ++ put_four (drop s x) q n =
    ap (λ (y : List ℕ). put_four y (s + q) n) (sym (take-append-drop s x)) ∙ ap (λ (k : ℕ). put_four (front ++ drop s x) (k + q) n) (sym long) ∙ put_back front (drop s x) q n in
    ap (λ (y : List ℕ). drop s y) all ∙ drop_at front (put_four (drop s x) q n) s long

-- a number that is written before an offset
pub put_before : (x : List ℕ) (s p n : ℕ) → p + 4 ≤ s → s ≤ length x → drop s (put_four x p n) ≡ drop s x
put_before x s p n before inside =
    let front = take s x in
    let long : length front ≡ s = omega (arith, length-take s x) in
    let near : p + 4 ≤ length front = omega arith in
    let all : put_four x p n ≡ put_four front p n ++ drop s x = ap (λ (y : List ℕ). put_four y p n) (sym (take-append-drop s x)) ∙ put_front front (drop s x) p n near in
    ap (λ (y : List ℕ). drop s y) all ∙ drop_at (put_four front p n) (drop s x) s (put_len front p n near ∙ long)

-- the stop of the parts stays as it was
stop_kept : (rest : Rest) (body : List ℕ) (p n : ℕ) → rest_start rest ≤ p → p + 4 ≤ length body → stop_of rest (put_four body p n) ≡ stop_of rest body
stop_kept Nothing body p n behind inside = refl
stop_kept Containing body p n behind inside = refl
stop_kept Indices body p n behind inside = ap (λ (k : ℕ). 4 + 4 * k) (four_before body p n behind (omega (arith, inside)))
stop_kept Methods body p n behind inside = put_len body p n inside
stop_kept Members body p n behind inside = put_len body p n inside

-- a number that is written at a place of the parts
parts_kept : (rest : Rest) (body places : List ℕ) (p n : ℕ) → p + 4 ≤ length body → Among p places → HasParts rest body places → HasParts rest (put_four body p n) places
parts_kept rest body places p n inside in_places has =
    let kept = parts_keep rest (stop_of rest body) (rest_start rest) has.pieces places p n has.parts_are in_places in
    let at : rest_start rest + (p - rest_start rest) ≡ p = omega (arith, kept.from) in
    let moved : drop (rest_start rest) (put_four body p n) ≡ put_four (drop (rest_start rest) body) (p - rest_start rest) n =
    ap (λ (k : ℕ). drop (rest_start rest) (put_four body k n)) (sym at) ∙ put_after body (rest_start rest) (p - rest_start rest) n has.starts in
    record {
      starts = omega (arith, has.starts, put_len body p n inside);
      pieces = kept.texts_now;
      back = has.back;
      parts = moved ∙ ap (λ (x : List ℕ). put_four x (p - rest_start rest) n) has.parts ∙ put_front (concat has.pieces) has.back (p - rest_start rest) n kept.inside ∙ ap (λ (x : List ℕ). x ++ has.back) kept.bytes;
      parts_are = rw (stop_kept rest body p n kept.from inside) kept.parts_are;
    }

-- a number that is written at a fixed place
fixed_kept : (rest : Rest) (body fixed places : List ℕ) (p n : ℕ) → p + 4 ≤ length body → p + 4 ≤ fixed_end rest fixed → HasParts rest body places → HasParts rest (put_four body p n) places
fixed_kept Nothing body fixed places p n inside early has = record {
  starts = omega arith;
  pieces = [];
  back = put_four body p n;
  parts = refl;
  parts_are = (omega arith, nothing_follows 0 has.pieces places (omega arith) has.parts_are);
}
fixed_kept Containing body fixed places p n inside early has = record {
  starts = omega (arith, has.starts, put_len body p n inside);
  pieces = has.pieces;
  back = has.back;
  parts = put_before body 4 p n early has.starts ∙ has.parts;
  parts_are = has.parts_are;
}
fixed_kept Indices body fixed places p n inside early has = absurd (omega (arith, early))
fixed_kept Methods body fixed places p n inside early has = absurd (omega (arith, early))
fixed_kept Members body fixed places p n inside early has = absurd (omega (arith, early))

-- ---- the record

-- a place lies within the body
among_fits : (r places : List ℕ) (p : ℕ) → HasPlaces r places → Among p places → p + 4 ≤ length (body_of r)
among_fits r places p has in_places = (among_inside p 0 places (length (body_of r)) (places_apart r places has) in_places).1

-- the bytes of a place lie within the record
among_long : (r places : List ℕ) (p : ℕ) → HasPlaces r places → Among p places → p + 8 ≤ length r
unfolding body_of
among_long r places p has in_places = omega (arith, among_fits r places p has in_places, length-drop 4 r)

-- the bytes of a place lie within the record
pub place_fits : (r : List ℕ) (place : ℕ) → IsPlace r place → place + 8 ≤ length r
place_fits r place is = among_long r is.0 place is.1 (among place is.0 is.2)

-- the body of a record that was written to
body_kept : (r : List ℕ) (p n : ℕ) → 4 ≤ length r → body_of (put_four r (4 + p) n) ≡ put_four (body_of r) p n
unfolding body_of
body_kept r p n long = put_after r 4 p n long

-- the kind of a record that was written to
kind_kept : (r : List ℕ) (p n : ℕ) → 4 + p ≤ length r → kind_of (put_four r (4 + p) n) ≡ kind_of r
unfolding kind_of
kind_kept r p n long = kind_before r (4 + p) n (omega arith) long

-- what follows the fixed places, by whether the number was written at one of these
rest_kept : (r places : List ℕ) (p n : ℕ) (has : HasPlaces r places) → p + 4 ≤ length (body_of r) → Among p has.leaf.places ⊎ Among p has.others → HasParts has.leaf.rest (put_four (body_of r) p n) has.others
rest_kept r places p n has inside (inl fixed) =
    fixed_kept has.leaf.rest (body_of r) has.leaf.places has.others p n inside (among_inside p 0 has.leaf.places (fixed_end has.leaf.rest has.leaf.places) (fixed_apart (kind_of r) has.leaf has.kind) fixed).1 has.rest
rest_kept r places p n has inside (inr parts) = parts_kept has.leaf.rest (body_of r) has.others p n inside parts has.rest

-- a number written at one of a record's places leaves it with these places
pub among_kept : (r places : List ℕ) (p n : ℕ) → HasPlaces r places → Among p places → HasPlaces (put_four r (4 + p) n) places
among_kept r places p n has in_places =
    let long = among_long r places p has in_places in
    let inside = among_fits r places p has in_places in
    let body = body_kept r p n (omega (arith, long)) in
    let same : length (put_four (body_of r) p n) ≡ length (body_of r) = put_len (body_of r) p n inside in
    record {
      long = omega (arith, has.long, put_len r (4 + p) n (omega (arith, long)));
      leaf = has.leaf;
      kind = ap leaf_of (kind_kept r p n (omega (arith, long))) ∙ has.kind;
      fixed = subst (λ (len : ℕ). AllByRecursion (λ q. q + 4 ≤ len) has.leaf.places) (sym (ap length body ∙ same)) has.fixed;
      others = has.others;
      rest = subst (λ (x : List ℕ). HasParts has.leaf.rest x has.others) (sym body) (rest_kept r places p n has inside (among_split p has.leaf.places has.others (rw has.places_are at in_places)));
      places_are = has.places_are;
    }

-- the same for every list of its places
pub places_kept : (r : List ℕ) (place n : ℕ) → IsPlace r place → (places : List ℕ) → HasPlaces r places → HasPlaces (put_four r (4 + place) n) places
places_kept r place n is places has =
    let same : is.0 ≡ places = one_places r is.0 places is.1 has in
    among_kept r places place n has (rw same at (among place is.0 is.2))

-- a number that is written at a place is read there again
pub written_is_read : (r : List ℕ) (place n : ℕ) → IsPlace r place → n < 2 ^ 32 → number_at 4 (body_of (put_four r (4 + place) n)) place ≡ n
written_is_read r place n is small = body_read r place n (place_fits r place is) small
