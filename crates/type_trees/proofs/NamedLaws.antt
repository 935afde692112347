-- What holds of all places of a record follows from those at which it names a record.
use Rattle.std.proofs.Common.{◌≡◌, ◌≤◌, ◌<◌, ◌+◌, ◌*◌, ◌^◌, ℕ, zero, suc, max, List, [], ◌∷◌, map, length, refl, sym, ap, ◌∙◌, arith, inl, inr, ◌⊎◌}
use Rattle.std.proofs.lemmas.Bool.{cases_lt, lt-ltb, le-ltb}
use Rattle.std.specs.List.{AllByRecursion, Contains}
use Rattle.byte_fields.specs.Bytes.{AreBytes}
use Rattle.tpi_records.specs.Header.{first_index}
use Rattle.cv_leaves.specs.Blank.{put_four, fill}
use Rattle.cv_leaves.specs.Checks.{places_of}
use Rattle.cv_leaves.specs.Place.{IsChecked, Apart}
use Rattle.cv_leaves.specs.References.{reference_at, references, filled}
use Rattle.cv_leaves.proofs.PutLaws.{number_in_body, put_len, put_own, put_swap}
use Rattle.cv_leaves.proofs.PlaceLaws.{ends_behind, places_fit}
use Rattle.cv_leaves.proofs.FillLaws.{Fits, fits}
use Rattle.cv_leaves.proofs.ListLaws.{named-none}
use Rattle.cv_leaves.proofs.FilledLaws.{own_places, filled_places, filled_read, reference_each}
use Rattle.type_trees.specs.Types.{NamesThere}
use Rattle.cv_leaves.specs.Named.{named_at, named_among, named_places}
use Rattle.type_trees.specs.Table.{renumber, renumber_one, renumbered, AreNumbered}
use Rattle.type_trees.specs.Depth.{height, depth_above}
use Rattle.type_trees.proofs.RenumberLaws.{simple_number}
use Rattle.type_trees.proofs.DepthLaws.{above_more, height_simple, lower_places}

-- ---- The list

-- a place of a simple reference is left out
pub named-simple : (r : List ℕ) (p : ℕ) (ps : List ℕ) → reference_at r p < first_index → named_among r (p ∷ ps) ≡ named_among r ps
unfolding named_among named_at
named-simple r p ps small = rw (lt-ltb (reference_at r p) first_index small) refl

-- any other place is listed
pub named-kept : (r : List ℕ) (p : ℕ) (ps : List ℕ) → first_index ≤ reference_at r p → named_among r (p ∷ ps) ≡ p ∷ named_among r ps
unfolding named_among named_at
named-kept r p ps large = rw (le-ltb (reference_at r p) first_index large) refl

-- what holds of each place holds of those that are listed
pub named_each : (P : ℕ → Type 0) (r ps : List ℕ) → AllByRecursion P ps → AllByRecursion P (named_among r ps)
named_each P r [] each = rw (named-none r) tt
named_each P r (p ∷ ps) each = elim (cases_lt (reference_at r p) first_index) [
  | inl small ↦ rw (named-simple r p ps small) (named_each P r ps each.1)
  | inr large ↦ rw (named-kept r p ps large) (each.0, named_each P r ps each.1)
]

-- what is in a list is in it with one more before it
one_before : (q p : ℕ) (xs : List ℕ) → Contains xs p → Contains (q ∷ xs) p
one_before q p xs (k, inside, is) = (suc k, omega (arith, inside), is)

-- each place that is listed is one of the places
pub named_within : (r ps : List ℕ) (p : ℕ) → Contains (named_among r ps) p → Contains ps p
named_within r [] p on = rw (named-none r) at on
named_within r (q ∷ ps) p on = elim (cases_lt (reference_at r q) first_index) [
  | inl small ↦ one_before q p ps (named_within r ps p (rw (named-simple r q ps small) at on))
  | inr large ↦ first_or (named_among r ps) (named_within r ps p) (rw (named-kept r q ps large) at on)
]
  where
    first_or : (xs : List ℕ) → (Contains xs p → Contains ps p) → Contains (q ∷ xs) p → Contains (q ∷ ps) p
    first_or xs later (zero, inside, is) = (zero, omega arith, is)
    first_or xs later (suc k, inside, is) = one_before q p ps (later (k, omega (arith, inside), is))

-- the places that are listed are apart too
pub named_apart : (r : List ℕ) (from : ℕ) (ps : List ℕ) (end : ℕ) → Apart from ps end → Apart from (named_among r ps) end
named_apart r from [] end apart = rw (named-none r) apart
named_apart r from (p ∷ ps) end apart = elim (cases_lt (reference_at r p) first_index) [
  | inl small ↦ rw (named-simple r p ps small) (sooner from (p + 4) (named_among r ps) end (omega (arith, apart.0)) (named_apart r (p + 4) ps end apart.1))
  | inr large ↦ rw (named-kept r p ps large) (apart.0, named_apart r (p + 4) ps end apart.1)
]
  where
    sooner : (a b : ℕ) (qs : List ℕ) (last : ℕ) → a ≤ b → Apart b qs last → Apart a qs last
    sooner a b [] last le h = omega (arith, le, h)
    sooner a b (q ∷ qs) last le h = (omega (arith, le, h.0), h.1)

-- ---- Names

names-there : (many : ℕ) (r ps : List ℕ) → NamesThere many (map (reference_at r) (named_among r ps)) → NamesThere many (map (reference_at r) ps)
names-there many r [] there = tt
names-there many r (p ∷ ps) there = elim (cases_lt (reference_at r p) first_index) [
  | inl small ↦ (omega (arith, small), names-there many r ps (rw (named-simple r p ps small) at there))
  | inr large ↦ let h = rw (named-kept r p ps large) at there in (h.0, names-there many r ps h.1)
]

-- a record names what is there, if it does at the places that are listed
pub listed_there : (many : ℕ) (r places : List ℕ) → places ≡ named_places r → NamesThere many (map (reference_at r) places) → NamesThere many (references r)
unfolding references named_places
listed_there many r places own there = names-there many r (places_of r) (rw own at there)

numbered-each : (numbers r ps : List ℕ) → AreNumbered numbers (map (reference_at r) ps) → AreNumbered numbers (map (reference_at r) (named_among r ps))
numbered-each numbers r [] each = rw (named-none r) tt
numbered-each numbers r (p ∷ ps) each = elim (cases_lt (reference_at r p) first_index) [
  | inl small ↦ rw (named-simple r p ps small) (numbered-each numbers r ps each.1)
  | inr large ↦ rw (named-kept r p ps large) (each.0, numbered-each numbers r ps each.1)
]

pub listed_numbered : (numbers r places : List ℕ) → places ≡ named_places r → AreNumbered numbers (references r) → AreNumbered numbers (map (reference_at r) places)
unfolding references named_places
listed_numbered numbers r places own each = rw own (numbered-each numbers r (places_of r) each)

-- ---- Depths

above-each : (r : List ℕ) (f : ℕ → ℕ) (ps : List ℕ) → depth_above f (map (reference_at r) (named_among r ps)) ≡ depth_above f (map (reference_at r) ps)
above-each r f [] = ap (λ (qs : List ℕ). depth_above f (map (reference_at r) qs)) (named-none r)
above-each r f (p ∷ ps) = elim (cases_lt (reference_at r p) first_index) [
  | inl small ↦
      let flat : height f (reference_at r p) ≡ 0 = height_simple f (reference_at r p) small in
      ap (λ (qs : List ℕ). depth_above f (map (reference_at r) qs)) (named-simple r p ps small) ∙ above-each r f ps
      ∙ sym (above_more f (reference_at r p) (map (reference_at r) ps) ∙ ap (λ (h : ℕ). max h (depth_above f (map (reference_at r) ps))) flat ∙ none_max (depth_above f (map (reference_at r) ps)))
  | inr large ↦
      ap (λ (qs : List ℕ). depth_above f (map (reference_at r) qs)) (named-kept r p ps large) ∙ above_more f (reference_at r p) (map (reference_at r) (named_among r ps))
      ∙ ap (λ (d : ℕ). max (height f (reference_at r p)) d) (above-each r f ps) ∙ sym (above_more f (reference_at r p) (map (reference_at r) ps))
]
  where
    none_max : (n : ℕ) → max 0 n ≡ n
    none_max n = omega arith

-- the depth of a record is that of the places that are listed
pub listed_above : (r places : List ℕ) (f : ℕ → ℕ) → places ≡ named_places r → depth_above f (map (reference_at r) places) ≡ depth_above f (references r)
unfolding references named_places
listed_above r places f own = rw own (above-each r f (places_of r))

-- before the first place
pub listed_first_above : (r places : List ℕ) (f : ℕ → ℕ) → places ≡ named_places r → max 0 (depth_above f (map (reference_at r) places)) ≡ depth_above f (references r)
listed_first_above r places f own = omega (arith, listed_above r places f own)

-- the four bytes at each place that is listed lie within the record
pub listed_fit : (r places : List ℕ) → IsChecked r → places ≡ named_places r → AllByRecursion (λ p. p + 8 ≤ length r) places
unfolding named_places
listed_fit r places checked own = rw own (named_each (λ p. p + 8 ≤ length r) r (places_of r) (places_fit r (places_of r) (own_places r checked)))

-- each place that is listed is a place of the record
pub listed_within : (r places : List ℕ) → places ≡ named_places r → (p : ℕ) → Contains places p → Contains (places_of r) p
unfolding named_places
listed_within r places own p on = named_within r (places_of r) p (rw own at on)

-- the references at the places that are listed are lower, if all are
pub listed_lower : (r places : List ℕ) (end : ℕ) → places ≡ named_places r → AllByRecursion (λ n. n < end) (references r) → AllByRecursion (λ p. reference_at r p < end) places
unfolding references named_places
listed_lower r places end own lower = rw own (named_each (λ p. reference_at r p < end) r (places_of r) (lower_places r (places_of r) end lower))

-- ---- Numbers

-- writing the own number of r changes nothing in x, at each of these places
abbrev pub IsOwn : List ℕ → List ℕ → List ℕ → Type 0
IsOwn r x ps = AllByRecursion (λ p. put_four x (4 + p) (reference_at r p) ≡ x) ps

-- this stays so when a number is written before these places
own_still : (r x : List ℕ) (p n from : ℕ) (ps : List ℕ) (end : ℕ) → p + 4 ≤ from → Apart from ps end → end + 4 ≤ length x → IsOwn r x ps → IsOwn r (put_four x (4 + p) n) ps
own_still r x p n from [] end le apart inside own = tt
own_still r x p n from (q ∷ ps) end le apart inside own = (
  sym (put_swap x (4 + p) (4 + q) (reference_at r q) n (omega (arith, le, apart.0)) (omega (arith, inside, ends_behind (q + 4) ps end apart.1))) ∙ ap (λ (y : List ℕ). put_four y (4 + p) n) own.0,
  own_still r x p n (q + 4) ps end (omega (arith, le, apart.0)) apart.1 inside own.1,
)

renumber-first : (f : ℕ → ℕ) (n : ℕ) (ns : List ℕ) → renumber f (n ∷ ns) ≡ renumber_one f n ∷ renumber f ns
unfolding renumber
renumber-first f n ns = refl

fill-each : (r x : List ℕ) (f : ℕ → ℕ) (from : ℕ) (ps : List ℕ) (end : ℕ) → Apart from ps end → end + 4 ≤ length x → IsOwn r x ps
    → fill x (named_among r ps) (renumber f (map (reference_at r) (named_among r ps))) ≡ fill x ps (renumber f (map (reference_at r) ps))
fill-each r x f from [] end apart inside own = ap (λ (qs : List ℕ). fill x qs (renumber f (map (reference_at r) qs))) (named-none r)
fill-each r x f from (p ∷ ps) end apart inside own =
    let n : ℕ = reference_at r p in
    let ns : List ℕ = map (reference_at r) ps in
    elim (cases_lt n first_index) [
      | inl small ↦
          ap (λ (qs : List ℕ). fill x qs (renumber f (map (reference_at r) qs))) (named-simple r p ps small) ∙ fill-each r x f (p + 4) ps end apart.1 inside own.1
          ∙ ap (λ (y : List ℕ). fill y ps (renumber f ns)) (sym own.0 ∙ ap (put_four x (4 + p)) (simple_number f n small)) ∙ sym (ap (fill x (p ∷ ps)) (renumber-first f n ns))
      | inr large ↦
          let m : ℕ = renumber_one f n in
          let y : List ℕ = put_four x (4 + p) m in
          let at : 4 + p + 4 ≤ length x = omega (arith, inside, ends_behind (p + 4) ps end apart.1) in
          let long : length y ≡ length x = put_len x (4 + p) m at in
          ap (λ (qs : List ℕ). fill x qs (renumber f (map (reference_at r) qs))) (named-kept r p ps large)
          ∙ ap (fill x (p ∷ named_among r ps)) (renumber-first f n (map (reference_at r) (named_among r ps)))
          ∙ fill-each r y f (p + 4) ps end apart.1 (omega (arith, inside, long)) (own_still r x p m (p + 4) ps end (omega arith) apart.1 inside own.1)
          ∙ sym (ap (fill x (p ∷ ps)) (renumber-first f n ns))
    ]

own_all : (r ps : List ℕ) → AreBytes r → AllByRecursion (λ p. p + 8 ≤ length r) ps → IsOwn r r ps
own_all r [] bytes fit = tt
own_all r (p ∷ ps) bytes fit = (ap (put_four r (4 + p)) (number_in_body r p) ∙ put_own r (4 + p) bytes (omega (arith, fit.0)), own_all r ps bytes fit.1)

-- a record gets its new numbers at the places that are listed
pub listed_fill : (r places copy : List ℕ) (f : ℕ → ℕ) → IsChecked r → AreBytes r → places ≡ named_places r → copy ≡ r → fill copy places (renumber f (map (reference_at r) places)) ≡ renumbered f r
unfolding renumbered filled references named_places
listed_fill r places copy f checked bytes own same =
    let has = own_places r checked in
    let fit = fits r (places_of r) has in
    rw (own, same) (fill-each r r f 0 (places_of r) fit.0 fit.1 fit.2 (own_all r (places_of r) bytes (places_fit r (places_of r) has)))

-- the places that are listed are apart, and lie within the record
pub listed_fits : (r places : List ℕ) → IsChecked r → places ≡ named_places r → Fits 0 places (length r)
unfolding named_places
listed_fits r places checked own =
    let fit = fits r (places_of r) (own_places r checked) in
    rw own (fit.0, named_apart r 0 (places_of r) fit.0 fit.1, fit.2)

-- ---- How many there are

apart_long : (from : ℕ) (ps : List ℕ) (end : ℕ) → Apart from ps end → from + 4 * length ps ≤ end
apart_long from [] end apart = omega (arith, apart)
apart_long from (p ∷ ps) end apart = omega (arith, apart.0, apart_long (p + 4) ps end apart.1)

-- each place that is listed has four bytes of its own
pub listed_short : (r places : List ℕ) → IsChecked r → places ≡ named_places r → 4 * length places ≤ length r
unfolding named_places
listed_short r places checked own =
    let fit = fits r (places_of r) (own_places r checked) in
    let long = apart_long 0 (named_among r (places_of r)) fit.0 (named_apart r 0 (places_of r) fit.0 fit.1) in
    omega (arith, ap length own, long, fit.2)

-- ---- A record with new numbers

small-each : (f : ℕ → ℕ) (r ps : List ℕ) → AllByRecursion (λ p. renumber_one f (reference_at r p) < 2 ^ 32) (named_among r ps) → AllByRecursion (λ n. n < 2 ^ 32) (renumber f (map (reference_at r) ps))
unfolding renumber
small-each f r [] small = tt
small-each f r (p ∷ ps) small = elim (cases_lt (reference_at r p) first_index) [
  | inl simple ↦ (omega (arith, simple, simple_number f (reference_at r p) simple), small-each f r ps (rw (named-simple r p ps simple) at small))
  | inr large ↦ let h = rw (named-kept r p ps large) at small in (h.0, small-each f r ps h.1)
]

-- the new numbers are small, if those at the places that are listed are
pub listed_small : (f : ℕ → ℕ) (r places : List ℕ) → places ≡ named_places r → AllByRecursion (λ p. renumber_one f (reference_at r p) < 2 ^ 32) places → AllByRecursion (λ n. n < 2 ^ 32) (renumber f (references r))
unfolding references named_places
listed_small f r places own small = small-each f r (places_of r) (rw own at small)

-- one reference more has a small number
pub small_more : (f : ℕ → ℕ) (r left others : List ℕ) (p : ℕ) (P : Type 0) → left ≡ p ∷ others → renumber_one f (reference_at r p) < 2 ^ 32
    → (AllByRecursion (λ q. renumber_one f (reference_at r q) < 2 ^ 32) left → P) → AllByRecursion (λ q. renumber_one f (reference_at r q) < 2 ^ 32) others → P
small_more f r left others p P split small so_far rest = so_far (rw split (small, rest))

-- a number that is written is of a record, exactly where the old one is
renumber-side : (f : ℕ → ℕ) (n : ℕ) → (n < first_index) ⊎ (first_index ≤ n) → (n < first_index → renumber_one f n < first_index) × (first_index ≤ n → first_index ≤ renumber_one f n)
unfolding renumber_one
renumber-side f n (inl small) = ((λ s. rw (lt-ltb n first_index small) small), λ large. absurd (omega (arith, small, large)))
renumber-side f n (inr large) = ((λ small. absurd (omega (arith, small, large))), λ l. rw (le-ltb n first_index large) (omega arith))

same-named : (r y : List ℕ) (f : ℕ → ℕ) (ps : List ℕ) → map (reference_at y) ps ≡ renumber f (map (reference_at r) ps) → named_among y ps ≡ named_among r ps
same-named r y f [] are = named-none y ∙ sym (named-none r)
same-named r y f (p ∷ ps) are =
    let both : reference_at y p ∷ map (reference_at y) ps ≡ renumber_one f (reference_at r p) ∷ renumber f (map (reference_at r) ps) = are ∙ renumber-first f (reference_at r p) (map (reference_at r) ps) in
    let here : reference_at y p ≡ renumber_one f (reference_at r p) = cc in
    let others : map (reference_at y) ps ≡ renumber f (map (reference_at r) ps) = cc in
    let rest = same-named r y f ps others in
    let side = renumber-side f (reference_at r p) (cases_lt (reference_at r p) first_index) in
    elim (cases_lt (reference_at r p) first_index) [
      | inl small ↦ named-simple y p ps (omega (arith, here, side.0 small)) ∙ rest ∙ sym (named-simple r p ps small)
      | inr large ↦ named-kept y p ps (omega (arith, here, side.1 large)) ∙ ap (λ (qs : List ℕ). p ∷ qs) rest ∙ sym (named-kept r p ps large)
    ]

each_renumbered : (f : ℕ → ℕ) (ns : List ℕ) → length (renumber f ns) ≡ length ns
unfolding renumber
each_renumbered f [] = refl
each_renumbered f (n ∷ ns) = ap suc (each_renumbered f ns)

-- a record with new numbers names records at the same places
pub renumbered_named : (r : List ℕ) (f : ℕ → ℕ) → IsChecked r → AllByRecursion (λ n. n < 2 ^ 32) (renumber f (references r)) → named_places (renumbered f r) ≡ named_places r
unfolding named_places renumbered references
renumbered_named r f checked small =
    let ns : List ℕ = renumber f (map (reference_at r) (places_of r)) in
    let y : List ℕ = filled r ns in
    let places : places_of y ≡ places_of r = filled_places r ns checked in
    let many : length ns ≡ length (places_of r) = each_renumbered f (map (reference_at r) (places_of r)) ∙ reference_each r in
    let read : map (reference_at y) (places_of y) ≡ ns = filled_read r ns checked many small in
    ap (named_among y) places ∙ same-named r y f (places_of r) (ap (map (reference_at y)) (sym places) ∙ read)
