-- The members of a field list, one after the other.
use Rattle.std.proofs.Common.{◌≡◌, ◌≤◌, ◌<◌, ◌+◌, ◌-◌, ◌*◌, ◌^◌, ◌∙◌, ◌++◌, ℕ, zero, suc, List, [], ◌∷◌, Option, Some, None, length, map, take, drop, refl, sym, ap, subst, arith, inl, inr}
use Rattle.std.specs.List.{concat, flat_map, AllByRecursion}
use Rattle.std.specs.Option.{option_map_or}
use Rattle.std.proofs.lemmas.Bool.{cases_eq, eq-eqb, ne_eqb}
use Rattle.std.proofs.lemmas.List.{append-nil, append_assoc, length-append, length-take, length-drop, take-append-drop, take-append-le, take-take, drop-append-le, drop-drop, drop_at, map-append}
use Rattle.std.proofs.Math.Seq.{take-append_seam}
use Rattle.byte_fields.specs.Check.{first_failing}
use Rattle.byte_fields.specs.Number.{number_at, four_bytes}
use Rattle.byte_fields.proofs.NumberLaws.{number_at-drop, number_at-append}
use Rattle.cv_leaves.specs.Leaf.{Leaf, leaf_of}
use Rattle.cv_leaves.specs.Member.{member_end, member_places, index_places}
use Rattle.cv_leaves.specs.Part.{part_end}
use Rattle.cv_leaves.specs.Checks.{kind_of, body_of, checks_from, places_of}
use Rattle.cv_leaves.specs.Blank.{put_four, blank}
use Rattle.cv_leaves.specs.Place.{IsMember, AreParts, HasParts, IsChecked, Apart}
use Rattle.cv_leaves.specs.References.{references, blanked}
use Rattle.cv_leaves.specs.FieldList.{member_bytes, members_from, members_of, indices_of, IsWholeMember, DifferInIndices, AllDifferInIndices}
use Rattle.cv_leaves.specs.declared.leaf.Rest.TheVariants.{Nothing, Members}
use Rattle.cv_leaves.proofs.TextLaws.{text_behind}
use Rattle.cv_leaves.proofs.MemberLaws.{member_forward, member_long, member_apart}
use Rattle.cv_leaves.proofs.MemberHoldLaws.{member_holds}
use Rattle.cv_leaves.proofs.PartLaws.{each_part_past, each_part_here}
use Rattle.cv_leaves.proofs.RecordLaws.{parts_held, plus_zero}
use Rattle.cv_leaves.proofs.PutLaws.{put_len, put_front, put_back}
use Rattle.cv_leaves.proofs.PlaceLaws.{ends_behind}
use Rattle.cv_leaves.proofs.HoldLaws.{checks_hold, member_follows}
use Rattle.cv_leaves.proofs.KeepLaws.{member_keeps, put_before}
use Rattle.cv_leaves.proofs.FillLaws.{Within, within_itself}
use Rattle.cv_leaves.proofs.FilledLaws.{own_places, blanked_len, blanked_kind}
use Rattle.cv_leaves.proofs.PlaceLaws.{members_fill}

-- ---- members that are met one after the other

-- no member begins at the end
pub members_past : (body : List ℕ) (at : ℕ) → length body ≤ at → members_from body at ≡ []
unfolding members_from
members_past body at past = each_part_past (member_end body) (λ k. member_bytes body k ∷ []) (length body) at past

-- the first member, and the others
pub members_here : (body : List ℕ) (at : ℕ) → at < length body → members_from body at ≡ take (part_end Members body at - at) (drop at body) ∷ members_from body (part_end Members body at)
unfolding members_from part_end
members_here body at below = each_part_here (member_end body) (λ k. member_bytes body k ∷ []) (length body) at (λ k. member_forward body k) below

-- where a member ends, as a part of its record
end_is : (x : List ℕ) (k n : ℕ) → member_end x k ≡ k + n → part_end Members x k ≡ k + n
unfolding part_end
end_is x k n is = is

-- members that fill the bytes from `at` on are those that are met there
members_met : (body : List ℕ) (at : ℕ) (texts : List (List ℕ)) (back places : List ℕ) → drop at body ≡ concat texts ++ back → AreParts Members (length body) at texts places → members_from body at ≡ texts
members_met body at [] back places is parts = members_past body at parts.0
members_met body at (t ∷ ts) back places is parts =
    let rest = concat ts ++ back in
    let all : drop at body ≡ t ++ rest = is ∙ append_assoc t (concat ts) back in
    let follows = member_follows body (length body) at t ts back parts.1.1 all (omega arith) parts.1.3 in
    let end : part_end Members body at ≡ at + length t = end_is body at (length t) (member_holds body at t rest parts.1.0 all follows parts.1.2).1 in
    let next = members_met body (at + length t) ts back parts.1.1 (text_behind body at (at + length t) t rest all refl) parts.1.3 in
    let len : at + length t - at ≡ length t = omega arith in
    let first : take (at + length t - at) (drop at body) ≡ t = rw (len, all) (take-append_seam t rest) in
    members_here body at parts.0
    ∙ ap (λ (e : ℕ). take (e - at) (drop at body) ∷ members_from body e) end
    ∙ ap (λ (x : List ℕ). x ∷ members_from body (at + length t)) first
    ∙ ap (λ (xs : List (List ℕ)). t ∷ xs) next

-- ---- a checked field list

-- what the table says of its leaf
list_rest : (kind : ℕ) (l : Leaf) → kind ≡ 0x1203 → leaf_of kind ≡ Some l → (l.rest ≡ Members) × (l.places ≡ [])
unfolding leaf_of
list_rest kind l is found =
    let row = rw is at found in (
      sym (ap (λ (o : Option Leaf). option_map_or (λ m. m.rest) o Nothing) row),
      sym (ap (λ (o : Option Leaf). option_map_or (λ m. m.places) o []) row),
    )

-- its members pass their checks
pub members_held : (r : List ℕ) → IsChecked r → kind_of r ≡ 0x1203 → first_failing (checks_from Members (body_of r) (length (body_of r)) 0) ≡ None
members_held r checked kind =
    let l = checked.1.leaf in
    let is = list_rest (kind_of r) l kind checked.1.kind in
    rw is.0 at (parts_held r l (checks_hold r checked) (sym checked.1.kind))

-- its places are those of its members
has_members : (r : List ℕ) → IsChecked r → kind_of r ≡ 0x1203 → HasParts Members (body_of r) (places_of r)
has_members r checked kind =
    let has = own_places r checked in
    let is = list_rest (kind_of r) has.leaf kind has.kind in
    let places : places_of r ≡ has.others = has.places_are ∙ ap (λ (ps : List ℕ). ps ++ has.others) is.1 in
    rw places (rw is.0 at has.rest)

-- a record of another leaf has no members
pub no_members : (r : List ℕ) → (kind_of r ≡ 0x1203 → ⊥) → members_of r ≡ []
unfolding members_of
no_members r other = rw (ne_eqb (kind_of r) 0x1203 other) refl

pub some_members : (r : List ℕ) → kind_of r ≡ 0x1203 → members_of r ≡ members_from (body_of r) 0
unfolding members_of
some_members r kind = rw (eq-eqb (kind_of r) 0x1203 kind) refl

body_short : (r : List ℕ) → length (body_of r) ≤ length r
unfolding body_of
body_short r = omega (arith, length-drop 4 r)

-- its members are whole
parts_whole : (stop at : ℕ) (texts : List (List ℕ)) (places : List ℕ) → length (concat texts) ≤ 2 ^ 16 → AreParts Members stop at texts places → AllByRecursion IsWholeMember texts
parts_whole stop at [] places short parts = tt
parts_whole stop at (t ∷ ts) places short parts =
    let part = parts.1.2 in
    let whole = length-append t (concat ts) in (
      record {
        member = part.member;
        kind = part.kind;
        long = member_long t parts.1.0 part;
        short = omega (arith, short, whole);
      },
      parts_whole stop (at + length t) ts parts.1.1 (omega (arith, short, whole)) parts.1.3,
    )

pub members_whole : (r : List ℕ) → IsChecked r → length r ≤ 2 ^ 16 → AllByRecursion IsWholeMember (members_of r)
members_whole r checked short = elim (cases_eq (kind_of r) 0x1203) [
  | inr other ↦ rw (no_members r other) tt
  | inl kind ↦
      let fills = members_fill (body_of r) (places_of r) (has_members r checked kind) in
      let met : members_of r ≡ fills.0 = some_members r kind ∙ members_met (body_of r) 0 fills.0 [] (places_of r) (fills.1 ∙ sym (append-nil (concat fills.0))) fills.2 in
      let few : length (concat fills.0) ≤ 2 ^ 16 = omega (arith, short, ap length fills.1, body_short r) in
      rw met (parts_whole (length (body_of r)) 0 fills.0 (places_of r) few fills.2)
]

-- ---- members with zeros at their indices

-- a member with zeros at these of its places
abbrev zeroed : List ℕ → List ℕ → List ℕ
zeroed t [] = t
zeroed t (p ∷ ps) = zeroed (put_four t p 0) ps

-- it is a member with the same places, and as long
zeroed_keeps : (t here ps : List ℕ) → IsMember t here → Within ps here → IsMember (zeroed t ps) here × (length (zeroed t ps) ≡ length t)
zeroed_keeps t here [] part each = (part, refl)
zeroed_keeps t here (p ∷ ps) part each =
    let kept = member_keeps t here p 0 part each.0 in
    let more = zeroed_keeps (put_four t p 0) here ps kept.1 each.1 in
    (more.0, more.1 ∙ put_len t p 0 kept.0)

-- the indices of a member come after its first four bytes
indices_are : (i : ℕ) → AllByRecursion (λ p. (4 ≤ p) × (p + 4 ≤ 4 + 4 * i)) (take i (4 ∷ 8 ∷ []))
indices_are zero = tt
indices_are (suc zero) = ((omega arith, omega arith), tt)
indices_are (suc (suc zero)) = ((omega arith, omega arith), ((omega arith, omega arith), tt))
indices_are (suc (suc (suc n))) = ((omega arith, omega arith), ((omega arith, omega arith), tt))

-- the first four bytes stay where a number is written after them
front_stays : (x : List ℕ) (q : ℕ) → 4 ≤ q → q + 4 ≤ length x → take 4 (put_four x q 0) ≡ take 4 x
unfolding put_four
front_stays x q after inside = take-append-le 4 (take q x) (four_bytes 0 ++ drop (q + 4) x) (omega (arith, after, inside, length-take q x)) ∙ take-take 4 q x after

-- bytes before the places stay, and so do those behind them
ends_stay : (t : List ℕ) (ps : List ℕ) (s : ℕ) → s ≤ length t → AllByRecursion (λ p. (4 ≤ p) × (p + 4 ≤ s)) ps → (take 4 (zeroed t ps) ≡ take 4 t) × (drop s (zeroed t ps) ≡ drop s t)
ends_stay t [] s inside each = (refl, refl)
ends_stay t (p ∷ ps) s inside each =
    let long : length (put_four t p 0) ≡ length t = put_len t p 0 (omega (arith, inside, each.0.1)) in
    let more = ends_stay (put_four t p 0) ps s (omega (arith, inside, long)) each.1 in
    (more.0 ∙ front_stays t p each.0.0 (omega (arith, inside, each.0.1)), more.1 ∙ put_before t s p 0 each.0.1 inside)

-- it differs in nothing but its indices
zeroed_differs : (t here : List ℕ) → IsMember t here → DifferInIndices t (zeroed t here)
zeroed_differs t here part =
    let stay = ends_stay t here (4 + 4 * part.member.indices) (member_long t here part) (rw part.places_are (indices_are part.member.indices)) in
    record {
      member = part.member;
      kind = part.kind;
      long = (zeroed_keeps t here here part (within_itself here)).1;
      front = stay.0;
      back = stay.1;
    }

-- ---- the blank of a field list

-- each of the places ends before the end
each_inside : (from : ℕ) (ps : List ℕ) (end : ℕ) → Apart from ps end → AllByRecursion (λ p. p + 4 ≤ end) ps
each_inside from [] end apart = tt
each_inside from (p ∷ ps) end apart = (ends_behind (p + 4) ps end apart.1, each_inside (p + 4) ps end apart.1)

-- zeros at some places, and then at others
blank_append : (x ps qs : List ℕ) → blank x (ps ++ qs) ≡ blank (blank x ps) qs
blank_append x [] qs = refl
blank_append x (p ∷ ps) qs = blank_append (put_four x (4 + p) 0) ps qs

-- zeros at the places of the member at `at`, in a record that begins with the bytes before it
blank_first : (front t rest here : List ℕ) (at : ℕ) → length front ≡ 4 + at → AllByRecursion (λ p. p + 4 ≤ length t) here → blank (front ++ (t ++ rest)) (map (λ k. at + k) here) ≡ front ++ (zeroed t here ++ rest)
blank_first front t rest [] at long each = refl
blank_first front t rest (p ∷ ps) at long each =
    let place : 4 + (at + p) ≡ length front + p = omega (arith, long) in
    let one : put_four (front ++ (t ++ rest)) (4 + (at + p)) 0 ≡ front ++ (put_four t p 0 ++ rest) =
    ap (λ (k : ℕ). put_four (front ++ (t ++ rest)) k 0) place ∙ put_back front (t ++ rest) p 0 ∙ ap (λ (x : List ℕ). front ++ x) (put_front t rest p 0 each.0) in
    let others = subst (λ (len : ℕ). AllByRecursion (λ q. q + 4 ≤ len) ps) (sym (put_len t p 0 each.0)) each.1 in
    ap (λ (x : List ℕ). blank x (map (λ k. at + k) ps)) one ∙ blank_first front (put_four t p 0) rest ps at long others

-- the members of a record with zeros at all their places
record Zeroed (stop at : ℕ) (front : List ℕ) (texts : List (List ℕ)) (places : List ℕ) : Type 0 where
  pub now : List (List ℕ)
  pub bytes : blank (front ++ concat texts) places ≡ front ++ concat now
  pub parts_are : AreParts Members stop at now places
  pub differ : AllDifferInIndices texts now

members_zeroed : (stop at : ℕ) (front : List ℕ) (texts : List (List ℕ)) (places : List ℕ) → length front ≡ 4 + at → AreParts Members stop at texts places → Zeroed stop at front texts places
members_zeroed stop at front [] places long parts = record {
  now = [];
  bytes = rw parts.1 refl;
  parts_are = parts;
  differ = refl;
}
members_zeroed stop at front (t ∷ ts) places long parts =
    let here = parts.1.0 in
    let others = parts.1.1 in
    let u = zeroed t here in
    let kept = zeroed_keeps t here here parts.1.2 (within_itself here) in
    let each = each_inside 0 here (length t) (member_apart t here parts.1.2) in
    let rest = members_zeroed stop (at + length t) (front ++ u) ts others (omega (arith, long, kept.1, length-append front u)) parts.1.3 in
    record {
      now = u ∷ rest.now;
      bytes = ap (λ (ps : List ℕ). blank (front ++ (t ++ concat ts)) ps) parts.1.4
          ∙ blank_append (front ++ (t ++ concat ts)) (map (λ k. at + k) here) others
          ∙ ap (λ (x : List ℕ). blank x others) (blank_first front t (concat ts) here at long each ∙ sym (append_assoc front u (concat ts)))
          ∙ rest.bytes ∙ append_assoc front u (concat rest.now);
      parts_are = (parts.0, (here, others, kept.0, subst (λ (n : ℕ). AreParts Members stop (at + n) rest.now others) (sym kept.1) rest.parts_are, parts.1.4));
      differ = (u, rest.now, refl, zeroed_differs t here parts.1.2, rest.differ);
    }

list_differs : (r : List ℕ) → IsChecked r → kind_of r ≡ 0x1203 → AllDifferInIndices (members_from (body_of r) 0) (members_from (body_of (blanked r)) 0)
unfolding blanked body_of
list_differs r checked kind =
    let fills = members_fill (drop 4 r) (places_of r) (has_members r checked kind) in
    let texts = fills.0 in
    let front = take 4 r in
    let four : length front ≡ 4 + 0 = omega (arith, length-take 4 r, checked.1.long) in
    let z = members_zeroed (length (drop 4 r)) 0 front texts (places_of r) four fills.2 in
    let own : r ≡ front ++ concat texts = sym (take-append-drop 4 r) ∙ ap (λ (x : List ℕ). front ++ x) fills.1 in
    let bytes : blank r (places_of r) ≡ front ++ concat z.now = ap (λ (x : List ℕ). blank x (places_of r)) own ∙ z.bytes in
    let rest : drop 4 (blank r (places_of r)) ≡ concat z.now = ap (λ (x : List ℕ). drop 4 x) bytes ∙ drop_at front (concat z.now) 4 four in
    let len : length (drop 4 r) ≡ length (concat z.now) =
    omega (arith, ap length rest, length-drop 4 r, length-drop 4 (blank r (places_of r)), blanked_len r checked) in
    let first : members_from (drop 4 r) 0 ≡ texts = members_met (drop 4 r) 0 texts [] (places_of r) (fills.1 ∙ sym (append-nil (concat texts))) fills.2 in
    let second : members_from (concat z.now) 0 ≡ z.now = members_met (concat z.now) 0 z.now [] (places_of r) (sym (append-nil (concat z.now))) (subst (λ (n : ℕ). AreParts Members n 0 z.now (places_of r)) len z.parts_are) in
    let blanks : members_from (drop 4 (blank r (places_of r))) 0 ≡ z.now = ap (λ (x : List ℕ). members_from x 0) rest ∙ second in
    subst (λ (xs : List (List ℕ)). AllDifferInIndices xs (members_from (drop 4 (blank r (places_of r))) 0)) (sym first)
    (subst (λ (xs : List (List ℕ)). AllDifferInIndices texts xs) (sym blanks) z.differ)

-- the members of a record and those of its blank differ in nothing but their indices
pub members_differ : (r : List ℕ) → IsChecked r → AllDifferInIndices (members_of r) (members_of (blanked r))
members_differ r checked = elim (cases_eq (kind_of r) 0x1203) [
  | inl kind ↦ rw (some_members r kind, some_members (blanked r) (blanked_kind r checked ∙ kind)) (list_differs r checked kind)
  | inr other ↦ rw (no_members r other, no_members (blanked r) (λ kind. other (sym (blanked_kind r checked) ∙ kind))) refl
]

-- ---- the references of a field list

-- a number in a member is one of the body
number_met : (body : List ℕ) (at p : ℕ) (t back : List ℕ) → drop at body ≡ t ++ back → p + 4 ≤ length t → number_at 4 body (at + p) ≡ number_at 4 t p
number_met body at p t back is inside =
    sym (number_at-drop 4 body (at + p))
    ∙ ap (λ (x : List ℕ). number_at 4 x 0) (sym (drop-drop p at body) ∙ ap (λ (x : List ℕ). drop p x) is ∙ drop-append-le p t back (omega (arith, inside)))
    ∙ number_at-append 4 (drop p t) back (omega (arith, inside, length-drop p t))
    ∙ number_at-drop 4 t p

numbers_met : (body : List ℕ) (at : ℕ) (t back here : List ℕ) → drop at body ≡ t ++ back → AllByRecursion (λ p. p + 4 ≤ length t) here → map (number_at 4 body) (map (λ k. at + k) here) ≡ map (number_at 4 t) here
numbers_met body at t back [] is each = refl
numbers_met body at t back (p ∷ ps) is each = rw (number_met body at p t back is each.0, numbers_met body at t back ps is each.1) refl

-- the places of a member, from its beginning
own_indices : (t here : List ℕ) → IsMember t here → indices_of t ≡ map (number_at 4 t) here
unfolding indices_of member_places
own_indices t here part = rw (part.kind, plus_zero (index_places part.member), part.places_are) refl

indices_met : (body : List ℕ) (stop at : ℕ) (texts : List (List ℕ)) (back places : List ℕ) → drop at body ≡ concat texts ++ back → AreParts Members stop at texts places → flat_map indices_of texts ≡ map (number_at 4 body) places
indices_met body stop at [] back places is parts = rw parts.1 refl
indices_met body stop at (t ∷ ts) back places is parts =
    let here = parts.1.0 in
    let others = parts.1.1 in
    let rest = concat ts ++ back in
    let all : drop at body ≡ t ++ rest = is ∙ append_assoc t (concat ts) back in
    let each = each_inside 0 here (length t) (member_apart t here parts.1.2) in
    let next = indices_met body stop (at + length t) ts back others (text_behind body at (at + length t) t rest all refl) parts.1.3 in
    ap (λ (xs : List ℕ). xs ++ flat_map indices_of ts) (own_indices t here parts.1.2 ∙ sym (numbers_met body at t rest here all each))
    ∙ ap (λ (xs : List ℕ). map (number_at 4 body) (map (λ k. at + k) here) ++ xs) next
    ∙ sym (map-append (number_at 4 body) (map (λ k. at + k) here) others)
    ∙ ap (map (number_at 4 body)) (sym parts.1.4)

-- the indices of its members are the references of a field list
pub members_name : (r : List ℕ) → IsChecked r → kind_of r ≡ 0x1203 → flat_map indices_of (members_of r) ≡ references r
unfolding references
members_name r checked kind =
    let has = has_members r checked kind in
    let fills = members_fill (body_of r) (places_of r) has in
    let own = fills.1 ∙ sym (append-nil (concat fills.0)) in
    let met : members_of r ≡ fills.0 = some_members r kind ∙ members_met (body_of r) 0 fills.0 [] (places_of r) own fills.2 in
    ap (flat_map indices_of) met ∙ indices_met (body_of r) (length (body_of r)) 0 fills.0 [] (places_of r) own fills.2
