-- A record that agrees with another one outside the places of that one.
use Rattle.std.proofs.Common.{◌≡◌, ◌≤◌, ◌<◌, ◌+◌, ◌-◌, ℕ, List, [], ◌∷◌, ◌++◌, length, map, take, drop, get_or, refl, sym, ap, ◌∙◌, arith, inl, inr}
use Rattle.std.proofs.lemmas.Bool.{cases_lt}
use Rattle.std.proofs.lemmas.List.{take-append-drop, take-take, drop-drop, drop-take, drop_at, length-take, take_rest}
use Rattle.std.proofs.Math.Seq.{take-add, take-append-add, take-append_seam}
use Rattle.byte_fields.specs.Bytes.{AreBytes}
use Rattle.byte_fields.proofs.NumberLaws.{length-four_bytes, number_at-take}
use Rattle.byte_fields.specs.Number.{four_bytes, number_at}
use Rattle.cv_leaves.specs.Blank.{put_four, fill}
use Rattle.cv_leaves.specs.Checks.{places_of}
use Rattle.cv_leaves.specs.Place.{IsChecked, Apart}
use Rattle.cv_leaves.specs.References.{reference_at, references, filled}
use Rattle.cv_leaves.proofs.PutLaws.{number_in_body, put_len, put_own}
use Rattle.cv_leaves.proofs.PlaceLaws.{ends_behind}
use Rattle.cv_leaves.proofs.FillLaws.{fits}
use Rattle.cv_leaves.proofs.FilledLaws.{own_places, filled_checked, filled_places, filled_twice, fill_blanked, own_fill, reference_each}
use Rattle.tpi_records.specs.Header.{first_index}
use Rattle.type_trees.specs.Types.{NamesThere}
use Rattle.tpi_records.specs.Records.{IsRecord}
use Rattle.cv_leaves.specs.Named.{named_among, named_places}
use Rattle.type_trees.specs.Table.{IsTable, renumber, renumber_one, renumbered}
use Rattle.type_trees.proofs.RenumberLaws.{simple_number}
use Rattle.cv_leaves.proofs.ListLaws.{named-none}
use Rattle.type_trees.proofs.NamedLaws.{named-simple, named-kept, named_apart}

-- ---- agreement outside the places

-- from this offset on, x and y are the same but for the four bytes at these places
abbrev pub Agree : List ℕ → List ℕ → ℕ → List ℕ → Type 0
Agree x y from [] = drop from x ≡ drop from y
Agree x y from (p ∷ ps) = (take (4 + p - from) (drop from x) ≡ take (4 + p - from) (drop from y)) × Agree x y (4 + p + 4) ps

-- what is the same from an offset on is the same from a later one on
drop_later : (y z : List ℕ) (from to : ℕ) → from ≤ to → drop from y ≡ drop from z → drop to y ≡ drop to z
drop_later y z from to le same =
    let at : from + (to - from) ≡ to = omega (arith, le) in
    sym (ap (λ (n : ℕ). drop n y) at) ∙ sym (drop-drop (to - from) from y) ∙ ap (drop (to - from)) same ∙ drop-drop (to - from) from z ∙ ap (λ (n : ℕ). drop n z) at

-- only the bytes from the offset on matter
agree_same : (x y z : List ℕ) (from b : ℕ) (ps : List ℕ) (end : ℕ) → from ≤ 4 + b → Apart b ps end → drop from y ≡ drop from z → Agree x y from ps → Agree x z from ps
agree_same x y z from b [] end le apart same agree = agree ∙ same
agree_same x y z from b (p ∷ ps) end le apart same agree = (
  agree.0 ∙ ap (take (4 + p - from)) same,
  agree_same x y z (4 + p + 4) (p + 4) ps end (omega arith) apart.1 (drop_later y z from (4 + p + 4) (omega (arith, le, apart.0)) same) agree.1,
)

-- the bytes up to a later offset are the same where those after the first are
take_longer : (x y : List ℕ) (from at : ℕ) → from ≤ at → take from x ≡ take from y → take (at - from) (drop from x) ≡ take (at - from) (drop from y) → take at x ≡ take at y
take_longer x y from at le front behind =
    let whole : from + (at - from) ≡ at = omega (arith, le) in
    sym (ap (λ (n : ℕ). take n x) whole) ∙ take-add from (at - from) x ∙ ap (λ (w : List ℕ). w ++ take (at - from) (drop from x)) front
    ∙ ap (λ (w : List ℕ). take from y ++ w) behind ∙ sym (take-add from (at - from) y) ∙ ap (λ (n : ℕ). take n y) whole

-- the bytes up to the end of a number that was written
put_taken : (z : List ℕ) (at n : ℕ) → at ≤ length z → take (at + 4) (put_four z at n) ≡ take at z ++ four_bytes n
unfolding put_four
put_taken z at n inside =
    let long : length (take at z) ≡ at = omega (arith, length-take at z, inside) in
    let four : length (four_bytes n) ≡ 4 = length-four_bytes n in
    ap (λ (k : ℕ). take (k + 4) (take at z ++ (four_bytes n ++ drop (at + 4) z))) (sym long)
    ∙ take-append-add (take at z) (four_bytes n ++ drop (at + 4) z) 4
    ∙ ap (λ (w : List ℕ). take at z ++ w) (ap (λ (k : ℕ). take k (four_bytes n ++ drop (at + 4) z)) (sym four) ∙ take-append_seam (four_bytes n) (drop (at + 4) z))

-- the bytes after a number that was written
put_dropped : (z : List ℕ) (at n : ℕ) → at ≤ length z → drop (at + 4) (put_four z at n) ≡ drop (at + 4) z
unfolding put_four
put_dropped z at n inside =
    let long : length (take at z) ≡ at = omega (arith, length-take at z, inside) in
    sym (drop-drop 4 at (take at z ++ (four_bytes n ++ drop (at + 4) z)))
    ∙ ap (drop 4) (drop_at (take at z) (four_bytes n ++ drop (at + 4) z) at long) ∙ drop_at (four_bytes n) (drop (at + 4) z) 4 (length-four_bytes n)

-- what agrees with y outside these places is y, filled with its own numbers there
agree_fill : (x y : List ℕ) (from b : ℕ) (ps : List ℕ) (end : ℕ) → AreBytes x → length x ≡ length y → from ≤ 4 + b → Apart b ps end → end + 4 ≤ length y → take from x ≡ take from y → Agree x y from ps → x ≡ fill y ps (map (reference_at x) ps)
agree_fill x y from b [] end bytes same le apart inside front agree =
    sym (take-append-drop from x) ∙ ap (λ (w : List ℕ). w ++ drop from x) front ∙ ap (λ (w : List ℕ). take from y ++ w) agree ∙ take-append-drop from y
agree_fill x y from b (p ∷ ps) end bytes same le apart inside front agree =
    let n : ℕ = reference_at x p in
    let after : p + 4 ≤ end = ends_behind (p + 4) ps end apart.1 in
    let at_y : 4 + p + 4 ≤ length y = omega (arith, after, inside) in
    let at_x : 4 + p + 4 ≤ length x = omega (arith, at_y, same) in
    let one : List ℕ = put_four y (4 + p) n in
    let own : put_four x (4 + p) n ≡ x = ap (put_four x (4 + p)) (number_in_body x p) ∙ put_own x (4 + p) bytes at_x in
    let before : take (4 + p) x ≡ take (4 + p) y = take_longer x y from (4 + p) (omega (arith, le, apart.0)) front agree.0 in
    let upto : take (4 + p + 4) x ≡ take (4 + p + 4) one =
    sym (ap (take (4 + p + 4)) own) ∙ put_taken x (4 + p) n (omega (arith, at_x)) ∙ ap (λ (w : List ℕ). w ++ four_bytes n) before ∙ sym (put_taken y (4 + p) n (omega (arith, at_y))) in
    let long : length one ≡ length y = put_len y (4 + p) n at_y in
    agree_fill x one (4 + p + 4) (p + 4) ps end bytes (same ∙ sym long) (omega arith) apart.1 (omega (arith, inside, long)) upto
    (agree_same x y one (4 + p + 4) (p + 4) ps end (omega arith) apart.1 (sym (put_dropped y (4 + p) n (omega (arith, at_y)))) agree.1)

-- ---- a record that becomes an entry

-- from this offset on, x becomes y with these places: it agrees with y outside of them, and each of its numbers there is known and becomes that of y
abbrev pub Becomes : ℕ → (ℕ → ℕ) → List ℕ → List ℕ → ℕ → List ℕ → Type 0
Becomes many f x y from [] = drop from x ≡ drop from y
Becomes many f x y from (p ∷ ps) =
    (take (4 + p - from) (drop from x) ≡ take (4 + p - from) (drop from y)) × (reference_at x p < first_index + many) × (reference_at y p ≡ renumber_one f (reference_at x p))
    × Becomes many f x y (4 + p + 4) ps

becomes_agree : (many : ℕ) (f : ℕ → ℕ) (x y : List ℕ) (from : ℕ) (ps : List ℕ) → Becomes many f x y from ps → Agree x y from ps
becomes_agree many f x y from [] h = h
becomes_agree many f x y from (p ∷ ps) h = (h.0, becomes_agree many f x y (4 + p + 4) ps h.3)

becomes_there : (many : ℕ) (f : ℕ → ℕ) (x y : List ℕ) (from : ℕ) (ps : List ℕ) → Becomes many f x y from ps → NamesThere many (map (reference_at x) ps)
becomes_there many f x y from [] h = tt
becomes_there many f x y from (p ∷ ps) h = (h.1, becomes_there many f x y (4 + p + 4) ps h.3)

becomes_numbers : (many : ℕ) (f : ℕ → ℕ) (x y : List ℕ) (from : ℕ) (ps : List ℕ) → Becomes many f x y from ps → map (reference_at y) ps ≡ renumber f (map (reference_at x) ps)
unfolding renumber
becomes_numbers many f x y from [] h = refl
becomes_numbers many f x y from (p ∷ ps) h = rw (h.2, becomes_numbers many f x y (4 + p + 4) ps h.3) refl

references-are : (r : List ℕ) → references r ≡ map (reference_at r) (places_of r)
unfolding references
references-are r = refl

filled-is : (r ns : List ℕ) → filled r ns ≡ fill r (places_of r) ns
unfolding filled
filled-is r ns = refl

renumbered-is : (f : ℕ → ℕ) (r : List ℕ) → renumbered f r ≡ filled r (renumber f (references r))
unfolding renumbered
renumbered-is f r = refl

-- a record of bytes that becomes an entry is checked, names what is known, and is the entry once it is renumbered
pub record Became (many : ℕ) (f : ℕ → ℕ) (x y : List ℕ) : Type 0 where
  pub same : y ≡ renumbered f x
  pub checked : IsChecked x
  pub there : NamesThere many (references x)

pub became : (many : ℕ) (f : ℕ → ℕ) (x y : List ℕ) → IsChecked y → AreBytes x → AreBytes y → length x ≡ length y → Becomes many f x y 0 (places_of y) → Became many f x y
became many f x y checked x_bytes y_bytes long h =
    let ps : List ℕ = places_of y in
    let ns : List ℕ = map (reference_at x) ps in
    let fit = fits y ps (own_places y checked) in
    let is : x ≡ filled y ns = agree_fill x y 0 0 ps fit.0 x_bytes long (omega arith) fit.1 fit.2 refl (becomes_agree many f x y 0 ps h) ∙ sym (filled-is y ns) in
    let places : places_of x ≡ ps = ap places_of is ∙ filled_places y ns checked in
    let own : references x ≡ ns = references-are x ∙ ap (map (reference_at x)) places in
    let numbers : renumber f (references x) ≡ references y = ap (renumber f) own ∙ sym (becomes_numbers many f x y 0 ps h) ∙ sym (references-are y) in
    let back : filled y (references y) ≡ y = sym (fill_blanked y (references y) checked (reference_each y)) ∙ own_fill y checked y_bytes in
    record {
      same = sym (renumbered-is f x ∙ ap (filled x) numbers ∙ ap (λ (r : List ℕ). filled r (references y)) is ∙ filled_twice y ns (references y) checked (reference_each y) ∙ back);
      checked = rw is (filled_checked y ns checked);
      there = rw own (becomes_there many f x y 0 ps h);
    }

-- ---- the places that are listed

-- the four bytes at a place are the same number
same_number : (x y : List ℕ) (p : ℕ) → take 4 (drop (4 + p) x) ≡ take 4 (drop (4 + p) y) → reference_at x p ≡ reference_at y p
same_number x y p same =
    number_in_body x p ∙ sym (number_at-take 4 x (4 + p) 4 (omega arith)) ∙ ap (λ (w : List ℕ). number_at 4 w 0) same ∙ number_at-take 4 y (4 + p) 4 (omega arith) ∙ sym (number_in_body y p)

-- the first of the same bytes are the same
take_same : (n m : ℕ) (x y : List ℕ) → n ≤ m → take m x ≡ take m y → take n x ≡ take n y
take_same n m x y le same = sym (take-take n m x le) ∙ ap (take n) same ∙ take-take n m y le

-- and the last of them
drop_same : (from to n : ℕ) (x y : List ℕ) → from ≤ to → take (to - from + n) (drop from x) ≡ take (to - from + n) (drop from y) → take n (drop to x) ≡ take n (drop to y)
drop_same from to n x y le same =
    let at : from + (to - from) ≡ to = omega (arith, le) in
    sym (ap (λ (k : ℕ). take n (drop k x)) at) ∙ sym (ap (take n) (drop-drop (to - from) from x)) ∙ sym (drop-take (to - from) n (drop from x))
    ∙ ap (drop (to - from)) same ∙ drop-take (to - from) n (drop from y) ∙ ap (take n) (drop-drop (to - from) from y) ∙ ap (λ (k : ℕ). take n (drop k y)) at

-- what becomes y from an offset on, becomes it from a later one on
later_becomes : (many : ℕ) (f : ℕ → ℕ) (x y : List ℕ) (from to b : ℕ) (qs : List ℕ) (end : ℕ) → from ≤ to → to ≤ 4 + b → Apart b qs end → Becomes many f x y from qs
    → (take (to - from) (drop from x) ≡ take (to - from) (drop from y)) × Becomes many f x y to qs
later_becomes many f x y from to b [] end le before apart h = (ap (take (to - from)) h, drop_later x y from to le h)
later_becomes many f x y from to b (q ∷ qs) end le before apart h =
    let len : to - from + (4 + q - to) ≡ 4 + q - from = omega (arith, le, before, apart.0) in
    let all : take (to - from + (4 + q - to)) (drop from x) ≡ take (to - from + (4 + q - to)) (drop from y) = rw len h.0 in
    (take_same (to - from) (4 + q - from) (drop from x) (drop from y) (omega (arith, len)) h.0, (drop_same from to (4 + q - to) x y le all, h.1, h.2, h.3))

-- what becomes y at the places that are listed becomes it at all places: the others are simple, and their bytes are the same
becomes_all : (many : ℕ) (f : ℕ → ℕ) (x y : List ℕ) (from b : ℕ) (ps : List ℕ) (end : ℕ) → from ≤ 4 + b → Apart b ps end → Becomes many f x y from (named_among y ps) → Becomes many f x y from ps
becomes_all many f x y from b [] end le apart h = rw (named-none y) at h
becomes_all many f x y from b (p ∷ ps) end le apart h = elim (cases_lt (reference_at y p) first_index) [
  | inl small ↦
      let tail : Becomes many f x y from (named_among y ps) = rw (named-simple y p ps small) at h in
      let w = later_becomes many f x y from (4 + p + 4) (p + 4) (named_among y ps) end (omega (arith, le, apart.0)) (omega arith) (named_apart y (p + 4) ps end apart.1) tail in
      let len : 4 + p - from + 4 ≡ 4 + p + 4 - from = omega (arith, le, apart.0) in
      let four : take (4 + p - from + 4) (drop from x) ≡ take (4 + p - from + 4) (drop from y) = rw len w.0 in
      let same : reference_at x p ≡ reference_at y p = same_number x y p (drop_same from (4 + p) 4 x y (omega (arith, le, apart.0)) four) in (
        take_same (4 + p - from) (4 + p + 4 - from) (drop from x) (drop from y) (omega (arith, len)) w.0,
        omega (arith, same, small),
        sym same ∙ simple_number f (reference_at x p) (omega (arith, same, small)),
        becomes_all many f x y (4 + p + 4) (p + 4) ps end (omega arith) apart.1 w.1,
      )
  | inr large ↦ let k = rw (named-kept y p ps large) at h in (k.0, k.1, k.2, becomes_all many f x y (4 + p + 4) (p + 4) ps end (omega arith) apart.1 k.3)
]

-- ---- place by place

-- before the first place
pub becoming_starts : (many : ℕ) (f : ℕ → ℕ) (x y left : List ℕ) → IsChecked y → left ≡ named_places y → Becomes many f x y 0 left → Becomes many f x y 0 (places_of y)
unfolding named_places
becoming_starts many f x y left checked own h =
    let fit = fits y (places_of y) (own_places y checked) in
    becomes_all many f x y 0 0 (places_of y) fit.0 (omega arith) fit.1 (rw own at h)

-- one place more
pub becoming_more : (many : ℕ) (f : ℕ → ℕ) (x y : List ℕ) (from p : ℕ) (left others : List ℕ) → left ≡ p ∷ others → take (4 + p - from) (drop from x) ≡ take (4 + p - from) (drop from y) → reference_at x p < first_index + many
    → reference_at y p ≡ renumber_one f (reference_at x p) → (Becomes many f x y from left → Becomes many f x y 0 (places_of y)) → Becomes many f x y (4 + p + 4) others → Becomes many f x y 0 (places_of y)
becoming_more many f x y from p left others split bytes known number so_far rest = so_far (rw split (bytes, known, number, rest))

-- after the last place
pub becoming_ends : (many : ℕ) (f : ℕ → ℕ) (x y : List ℕ) (from : ℕ) (left : List ℕ) → left ≡ [] → length x ≡ length y → take (length y - from) (drop from x) ≡ take (length y - from) (drop from y)
    → (Becomes many f x y from left → Becomes many f x y 0 (places_of y)) → Becomes many f x y 0 (places_of y)
becoming_ends many f x y from left none same behind so_far =
    so_far (rw none (sym (take_rest x from) ∙ ap (λ (n : ℕ). take (n - from) (drop from x)) same ∙ behind ∙ take_rest y from))

-- the places that are left begin after this offset, and end within the entry
pub record IsLeft (from : ℕ) (left : List ℕ) (len : ℕ) : Type 0 where
  pub base : ℕ
  pub end : ℕ
  pub after : from ≤ 4 + base
  pub apart : Apart base left end
  pub inside : end + 4 ≤ len

pub all_left : (y left : List ℕ) → IsChecked y → left ≡ named_places y → IsLeft 0 left (length y)
unfolding named_places
all_left y left checked own =
    let fit = fits y (places_of y) (own_places y checked) in
    record { base = 0; end = fit.0; after = omega arith; apart = rw own (named_apart y 0 (places_of y) fit.0 fit.1); inside = fit.2 }

pub next_left : (from p : ℕ) (left others : List ℕ) (len : ℕ) → left ≡ p ∷ others → IsLeft from left len → IsLeft (4 + p + 4) others len
next_left from p left others len split h =
    let apart = rw split at h.apart in
    record { base = p + 4; end = h.end; after = omega arith; apart = apart.1; inside = h.inside }

-- the next place is after the offset, and its four bytes are inside
pub first_left : (from p : ℕ) (left others : List ℕ) (len : ℕ) → left ≡ p ∷ others → IsLeft from left len → (from ≤ 4 + p) × (p + 8 ≤ len)
first_left from p left others len split h =
    let apart = rw split at h.apart in
    (omega (arith, h.after, apart.0), omega (arith, h.inside, ends_behind (p + 4) others h.end apart.1))

-- the offset is within the entry
pub offset_inside : (from : ℕ) (left : List ℕ) (len : ℕ) → IsLeft from left len → from ≤ len
offset_inside from left len h = omega (arith, h.after, h.inside, ends_behind h.base left h.end h.apart)

-- ---- an entry of a table

pub entry_framed : (r : List (List ℕ)) (i : ℕ) (x : List ℕ) → IsTable r → i < length r → x ≡ get_or r i [] → IsRecord x
entry_framed r i x table inside is = rw is (table.good.framed i inside)

pub entry_checked : (r : List (List ℕ)) (i : ℕ) (x : List ℕ) → IsTable r → i < length r → x ≡ get_or r i [] → IsChecked x
entry_checked r i x table inside is = rw is (table.good.checked i inside)

-- a record that becomes an entry is then made of bytes
pub entry_bytes : (r : List (List ℕ)) (i : ℕ) (x y : List ℕ) → IsTable r → i < length r → x ≡ get_or r i [] → x ≡ y → AreBytes y
entry_bytes r i x y table inside is same = rw (← same, is) (table.bytes i inside)
