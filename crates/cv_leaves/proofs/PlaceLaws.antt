-- The places of a record rise, are four bytes apart, and lie within its body.
use Rattle.std.proofs.Common.{◌≡◌, ◌∙◌, ◌<◌, ◌≤◌, ◌+◌, ◌++◌, ℕ, zero, suc, List, [], ◌∷◌, Some, length, map, get_or, refl, sym, ap, arith, inl, inr, true, false, Bool}
use Rattle.std.specs.Prelude.{◌⊎◌, ◌&&◌, nat_le}
use Rattle.std.specs.List.{concat, AllByRecursion, Contains}
use Rattle.std.proofs.lemmas.Bool.{leb-true}
use Rattle.std.proofs.lemmas.List.{append-nil, length-append, length-drop}
use Rattle.cv_leaves.specs.Leaf.{Leaf, leaves, leaf_of}
use Rattle.cv_leaves.proofs.TestLaws.{and_both, found_passes}
use Rattle.cv_leaves.proofs.TextLaws.{no_bytes}
use Rattle.cv_leaves.proofs.MemberLaws.{member_apart}
use Rattle.cv_leaves.specs.Attributes.{points_to_member, introduces}
use Rattle.cv_leaves.specs.Part.{rest_start, stop_of}
use Rattle.cv_leaves.specs.Checks.{kind_of, body_of}
use Rattle.cv_leaves.specs.Place.{IsPart, AreParts, HasParts, HasPlaces, Apart}
use Rattle.cv_leaves.specs.declared.leaf.Rest.{Rest}
use Rattle.cv_leaves.specs.declared.leaf.Rest.TheVariants.{Nothing, Containing, Indices, Methods, Members}
use Rattle.byte_fields.specs.Number.{number_at}

-- ---- lists of places

-- a later end serves as well
apart_longer : (from : ℕ) (ps : List ℕ) (end longer : ℕ) → Apart from ps end → end ≤ longer → Apart from ps longer
apart_longer from [] end longer apart le = omega (arith, apart)
apart_longer from (p ∷ ps) end longer apart le = (apart.0, apart_longer (p + 4) ps end longer apart.1 le)

-- places, and others after them
apart_append : (from : ℕ) (ps : List ℕ) (middle : ℕ) (qs : List ℕ) (end : ℕ) → Apart from ps middle → Apart middle qs end → Apart from (ps ++ qs) end
apart_append from [] middle [] end front back = omega (arith, front, back)
apart_append from [] middle (q ∷ qs) end front back = (omega (arith, front, back.0), back.1)
apart_append from (p ∷ ps) middle qs end front back = (front.0, apart_append (p + 4) ps middle qs end front.1 back)

-- the same places, all moved by `at`
pub apart_shift : (at from : ℕ) (ps : List ℕ) (end : ℕ) → Apart from ps end → Apart (at + from) (map (λ k. at + k) ps) (at + end)
apart_shift at from [] end apart = omega (arith, apart)
apart_shift at from (p ∷ ps) end apart =
    let e : at + (p + 4) ≡ at + p + 4 = omega arith in
    (omega (arith, apart.0), rw e at (apart_shift at (p + 4) ps end apart.1))

-- another end, if each of them ends before it
apart_within : (from : ℕ) (ps : List ℕ) (end other : ℕ) → Apart from ps end → AllByRecursion (λ p. p + 4 ≤ other) ps → from ≤ other → Apart from ps other
apart_within from [] end other apart each le = le
apart_within from (p ∷ ps) end other apart each le = (apart.0, apart_within (p + 4) ps end other apart.1 each.1 each.0)

-- places end before their end
pub ends_behind : (from : ℕ) (ps : List ℕ) (end : ℕ) → Apart from ps end → from ≤ end
ends_behind from [] end apart = apart
ends_behind from (p ∷ ps) end apart = omega (arith, apart.0, ends_behind (p + 4) ps end apart.1)

-- each of them lies within `len` bytes
pub all_fit : (from : ℕ) (ps : List ℕ) (end len : ℕ) → end + 4 ≤ len → Apart from ps end → AllByRecursion (λ p. p + 8 ≤ len) ps
all_fit from [] end len le apart = tt
all_fit from (p ∷ ps) end len le apart = (omega (arith, le, ends_behind (p + 4) ps end apart.1), all_fit (p + 4) ps end len le apart.1)

-- p is one of these places
abbrev pub Among : ℕ → List ℕ → Type 0
Among p [] = ⊥
Among p (q ∷ qs) = (p ≡ q) ⊎ Among p qs

-- the place at a position is among the places
among_at : (p : ℕ) (qs : List ℕ) (i : ℕ) → i < length qs → get_or qs i p ≡ p → Among p qs
among_at p [] i below is = absurd (omega (arith, below))
among_at p (q ∷ qs) zero below is = inl (sym is)
among_at p (q ∷ qs) (suc i) below is = inr (among_at p qs i (omega (arith, below)) is)

-- both definitions of being one of the places agree
pub among : (p : ℕ) (qs : List ℕ) → Contains qs p → Among p qs
among p qs contains = among_at p qs contains.0 contains.1 contains.2

-- each of them ends before the end
pub among_inside : (p from : ℕ) (qs : List ℕ) (end : ℕ) → Apart from qs end → Among p qs → (from ≤ p) × (p + 4 ≤ end)
among_inside p from [] end apart in_qs = absurd in_qs
among_inside p from (q ∷ qs) end apart (inl is) = (omega (arith, apart.0, is), omega (arith, is, ends_behind (q + 4) qs end apart.1))
among_inside p from (q ∷ qs) end apart (inr in_qs) = let later = among_inside p (q + 4) qs end apart.1 in_qs in (omega (arith, apart.0, later.0), later.1)

-- ---- the table

-- where the last of these places ends; `from` if there is none
abbrev last_end : ℕ → List ℕ → ℕ
last_end from [] = from
last_end from (p ∷ ps) = last_end (p + 4) ps

-- where the fixed places of a leaf end at the latest: before the parts, and before the number of indices; where nothing follows the places, they may end anywhere
abbrev pub fixed_end : Rest → List ℕ → ℕ
fixed_end Nothing places = last_end 0 places
fixed_end Indices places = 0
fixed_end rest places = rest_start rest

-- the test that places rise, and end before the end
abbrev are_apart : ℕ → List ℕ → ℕ → Bool
are_apart from [] end = nat_le from end
are_apart from (p ∷ ps) end = nat_le from p && are_apart (p + 4) ps end

-- places that pass the test are apart
apart_told : (from : ℕ) (ps : List ℕ) (end : ℕ) → are_apart from ps end ≡ true → Apart from ps end
apart_told from [] end e = leb-true from end e
apart_told from (p ∷ ps) end e =
    let both = and_both (nat_le from p) (are_apart (p + 4) ps end) e in
    (leb-true from p both.0, apart_told (p + 4) ps end both.1)

-- the fixed places of a leaf of the table rise, and end before what follows them
pub fixed_apart : (kind : ℕ) (l : Leaf) → leaf_of kind ≡ Some l → Apart 0 l.places (fixed_end l.rest l.places)
unfolding leaf_of
fixed_apart kind l is = apart_told 0 l.places (fixed_end l.rest l.places) (found_passes (λ k l. are_apart 0 l.places (fixed_end l.rest l.places)) leaves kind l refl is)

-- ---- parts

-- the places of a part, by its attributes
part_apart_by : (b c : Bool) (rest : Rest) (t here : List ℕ) → points_to_member (number_at 4 t 0) ≡ b → introduces (number_at 2 t 0) ≡ c → IsPart rest t here → Apart 0 here (length t)
part_apart_by b c Nothing t here e f part = absurd part
part_apart_by true c Containing t here e f part = let p : (length t ≡ 8) × (here ≡ 4 ∷ []) = rw e at part in rw (p.0, p.1) (omega arith, omega arith)
part_apart_by false c Containing t here e f part = let p : (length t ≡ 4) × (here ≡ []) = rw e at part in rw (p.0, p.1) (omega arith)
part_apart_by b c Indices t here e f part = rw (part.0, part.1) (omega arith, omega arith)
part_apart_by b true Methods t here e f part = let p : (length t ≡ 12) × (here ≡ 4 ∷ []) = rw f at part in rw (p.0, p.1) (omega arith, omega arith)
part_apart_by b false Methods t here e f part = let p : (length t ≡ 8) × (here ≡ 4 ∷ []) = rw f at part in rw (p.0, p.1) (omega arith, omega arith)
part_apart_by b c Members t here e f part = member_apart t here part

-- the places of a part lie in its bytes
pub part_apart : (rest : Rest) (t here : List ℕ) → IsPart rest t here → Apart 0 here (length t)
part_apart rest t here part = part_apart_by (points_to_member (number_at 4 t 0)) (introduces (number_at 2 t 0)) rest t here refl refl part

-- the places of parts lie in their bytes
pub parts_apart : (rest : Rest) (stop at : ℕ) (texts : List (List ℕ)) (places : List ℕ) → AreParts rest stop at texts places → Apart at places (at + length (concat texts))
parts_apart rest stop at [] places parts = rw parts.1 (omega arith)
parts_apart rest stop at (t ∷ ts) places parts =
    let here = parts.1.0 in
    let others = parts.1.1 in
    let zero_more : at + 0 ≡ at = omega arith in
    let first : Apart at (map (λ k. at + k) here) (at + length t) = rw zero_more at (apart_shift at 0 here (length t) (part_apart rest t here parts.1.2)) in
    let later = parts_apart rest stop (at + length t) ts others parts.1.3 in
    let end : at + length t + length (concat ts) ≡ at + length (t ++ concat ts) = omega (arith, length-append t (concat ts)) in
    rw parts.1.4 (apart_append at (map (λ k. at + k) here) (at + length t) others (at + length (t ++ concat ts)) first (rw end at later))

-- the places after the fixed ones lie in the body
pub rest_apart : (rest : Rest) (body places : List ℕ) → HasParts rest body places → Apart (rest_start rest) places (length body)
rest_apart rest body places has =
    apart_longer (rest_start rest) places (rest_start rest + length (concat has.pieces)) (length body)
    (parts_apart rest (stop_of rest body) (rest_start rest) has.pieces places has.parts_are)
    (omega (arith, has.starts, length-drop (rest_start rest) body, ap length has.parts, length-append (concat has.pieces) has.back))

-- where nothing follows there are no parts
pub nothing_follows : (stop : ℕ) (texts : List (List ℕ)) (places : List ℕ) → stop ≤ 0 → AreParts Nothing stop 0 texts places → places ≡ []
nothing_follows stop [] places none parts = parts.1
nothing_follows stop (t ∷ ts) places none parts = absurd (omega (arith, parts.0, none))

-- ---- the record

-- the fixed places and those after them
record_apart : (rest : Rest) (body fixed others : List ℕ) → Apart 0 fixed (fixed_end rest fixed) → AllByRecursion (λ p. p + 4 ≤ length body) fixed → HasParts rest body others → Apart 0 (fixed ++ others) (length body)
record_apart Nothing body fixed others apart each has =
    let none = nothing_follows 0 has.pieces others (omega arith) has.parts_are in
    rw (none, append-nil fixed) (apart_within 0 fixed (last_end 0 fixed) (length body) apart each (omega arith))
record_apart Containing body fixed others apart each has = apart_append 0 fixed 4 others (length body) apart (rest_apart Containing body others has)
record_apart Indices body fixed others apart each has = apart_append 0 fixed 4 others (length body) (apart_longer 0 fixed 0 4 apart (omega arith)) (rest_apart Indices body others has)
record_apart Methods body fixed others apart each has = apart_append 0 fixed 0 others (length body) apart (rest_apart Methods body others has)
record_apart Members body fixed others apart each has = apart_append 0 fixed 0 others (length body) apart (rest_apart Members body others has)

-- the places of a record rise, are four bytes apart, and lie within its body
pub places_apart : (r places : List ℕ) → HasPlaces r places → Apart 0 places (length (body_of r))
places_apart r places has = rw has.places_are (record_apart has.leaf.rest (body_of r) has.leaf.places has.others (fixed_apart (kind_of r) has.leaf has.kind) has.fixed has.rest)

-- the bytes of each place of a record lie within it
pub places_fit : (r places : List ℕ) → HasPlaces r places → AllByRecursion (λ p. p + 8 ≤ length r) places
unfolding body_of
places_fit r places has = all_fit 0 places (length (body_of r)) (length r) (omega (arith, has.long, length-drop 4 r)) (places_apart r places has)

-- ---- lists that fill the body

-- parts reach their stop
parts_reach : (rest : Rest) (stop at : ℕ) (texts : List (List ℕ)) (places : List ℕ) → AreParts rest stop at texts places → stop ≤ at + length (concat texts)
parts_reach rest stop at [] places parts = omega (arith, parts.0)
parts_reach rest stop at (t ∷ ts) places parts =
    omega (arith, parts_reach rest stop (at + length t) ts parts.1.1 parts.1.3, length-append t (concat ts))

-- parts that reach from the beginning of the body to its end fill it
parts_fill : (rest : Rest) (body places : List ℕ) → rest_start rest ≡ 0 → stop_of rest body ≡ length body → HasParts rest body places
    → (texts : List (List ℕ)) × (body ≡ concat texts) × AreParts rest (length body) 0 texts places
parts_fill rest body places starts stops has =
    let parts_are : AreParts rest (length body) 0 has.pieces places = rw (starts, stops) at has.parts_are in
    let parts : body ≡ concat has.pieces ++ has.back = rw starts at has.parts in
    let reach = parts_reach rest (length body) 0 has.pieces places parts_are in
    let none : has.back ≡ [] = no_bytes has.back (omega (arith, reach, ap length parts, length-append (concat has.pieces) has.back)) in
    (has.pieces, parts ∙ ap (λ (x : List ℕ). concat has.pieces ++ x) none ∙ append-nil (concat has.pieces), parts_are)

-- the entries of a method list fill its body
pub methods_fill : (body places : List ℕ) → HasParts Methods body places → (entries : List (List ℕ)) × (body ≡ concat entries) × AreParts Methods (length body) 0 entries places
methods_fill body places has = parts_fill Methods body places refl refl has

-- the members of a field list fill its body
pub members_fill : (body places : List ℕ) → HasParts Members body places → (members : List (List ℕ)) × (body ≡ concat members) × AreParts Members (length body) 0 members places
members_fill body places has = parts_fill Members body places refl refl has
