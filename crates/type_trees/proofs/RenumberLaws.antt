-- Writing other numbers into a record, place by place, and what this keeps.
use Rattle.std.proofs.Common.{◌≡◌, ◌≤◌, ◌<◌, ◌+◌, ◌-◌, ℕ, suc, List, [], ◌∷◌, map, refl, sym, ap, ◌∙◌, arith, ◌%◌, length}
use Rattle.std.proofs.lemmas.Bool.{lt-ltb, le-ltb}
use Rattle.std.specs.List.{AllByRecursion, Contains}
use Rattle.byte_fields.specs.Number.{number_at}
use Rattle.byte_fields.proofs.NumberLaws.{number_at-drop}
use Rattle.cv_leaves.specs.Blank.{put_four, fill}
use Rattle.cv_leaves.specs.References.{reference_at, references}
use Rattle.tpi_records.specs.Header.{first_index}
use Rattle.type_trees.specs.Types.{NamesThere}
use Rattle.type_trees.specs.Table.{renumber, renumber_one, renumbered}
use Rattle.tpi_records.specs.Records.{IsRecord}
use Rattle.cv_leaves.specs.Place.{IsChecked, Apart}
use Rattle.cv_leaves.proofs.FilledLaws.{filled_len}
use Rattle.cv_leaves.proofs.FillLaws.{Fits}
use Rattle.cv_leaves.proofs.KeepLaws.{put_before}
use Rattle.cv_leaves.proofs.PlaceLaws.{ends_behind}
use Rattle.cv_leaves.proofs.PutLaws.{number_in_body, put_len}

renumber-more : (f : ℕ → ℕ) (n : ℕ) (ns : List ℕ) → renumber f (n ∷ ns) ≡ renumber_one f n ∷ renumber f ns
unfolding renumber
renumber-more f n ns = refl

-- one step writes at one place and leaves the others
pub one_left : (r : List ℕ) (f : ℕ → ℕ) (copy after all : List ℕ) (place to : ℕ) (left others : List ℕ) → fill copy left (renumber f (map (reference_at r) left)) ≡ all → left ≡ place ∷ others → to ≡ renumber_one f (reference_at r place) → after ≡ put_four copy (4 + place) to
    → fill after others (renumber f (map (reference_at r) others)) ≡ all
one_left r f copy after all place to left others so_far split is changed =
    let ns : List ℕ = map (reference_at r) others in
    ap (λ (x : List ℕ). fill x others (renumber f ns)) (changed ∙ ap (put_four copy (4 + place)) is)
    ∙ sym (ap (fill copy (place ∷ others)) (renumber-more f (reference_at r place) ns))
    ∙ sym (ap (λ (ps : List ℕ). fill copy ps (renumber f (map (reference_at r) ps))) split) ∙ so_far

-- at the end no place is left, and the copy is the renumbered record
pub none_left : (r : List ℕ) (f : ℕ → ℕ) (copy left all : List ℕ) → fill copy left (renumber f (map (reference_at r) left)) ≡ all → left ≡ [] → copy ≡ all
none_left r f copy left all so_far none = sym (ap (λ (ps : List ℕ). fill copy ps (renumber f (map (reference_at r) ps))) none) ∙ so_far

pub first_in : (p : ℕ) (left others : List ℕ) → left ≡ p ∷ others → Contains left p
first_in p left others split = rw split (0, omega arith, refl)

pub others_in : (p place : ℕ) (left others : List ℕ) → left ≡ place ∷ others → Contains others p → Contains left p
others_in p place left others split h = rw split (suc h.0, omega (arith, h.1), h.2)

-- ---- What is not yet written

-- a reference that lies behind the number that is written stays
read_behind : (x : List ℕ) (p q n : ℕ) → p + 4 ≤ q → q + 8 ≤ length x → reference_at (put_four x (4 + p) n) q ≡ reference_at x q
read_behind x p q n apart inside =
    let y : List ℕ = put_four x (4 + p) n in
    number_in_body y q ∙ sym (number_at-drop 4 y (4 + q))
    ∙ ap (λ (z : List ℕ). number_at 4 z 0) (put_before x (4 + q) (4 + p) n (omega (arith, apart)) (omega (arith, inside)))
    ∙ number_at-drop 4 x (4 + q) ∙ sym (number_in_body x q)

-- what x has at each of these places is what r has there; the places are apart
pub record AreUnwritten (r x ps : List ℕ) : Type 0 where
  pub from : ℕ
  pub fits : Fits from ps (length x)
  pub same : AllByRecursion (λ p. reference_at x p ≡ reference_at r p) ps

same-behind : (r x : List ℕ) (p n from : ℕ) (qs : List ℕ) (end : ℕ) → p + 4 ≤ from → Apart from qs end → end + 4 ≤ length x → AllByRecursion (λ q. reference_at x q ≡ reference_at r q) qs
    → AllByRecursion (λ q. reference_at (put_four x (4 + p) n) q ≡ reference_at r q) qs
same-behind r x p n from [] end le apart inside same = tt
same-behind r x p n from (q ∷ qs) end le apart inside same = (
  read_behind x p q n (omega (arith, le, apart.0)) (omega (arith, inside, ends_behind (q + 4) qs end apart.1)) ∙ same.0,
  same-behind r x p n (q + 4) qs end (omega (arith, le, apart.0)) apart.1 inside same.1,
)

same-own : (r ps : List ℕ) → AllByRecursion (λ p. reference_at r p ≡ reference_at r p) ps
same-own r [] = tt
same-own r (p ∷ ps) = (refl, same-own r ps)

-- at the start no place is written
pub unwritten_starts : (r x ps : List ℕ) (from : ℕ) → Fits from ps (length r) → x ≡ r → AreUnwritten r x ps
unwritten_starts r x ps from fits same = rw same (record { from = from; fits = fits; same = same-own r ps })

-- the first of the places has its old reference
pub unwritten_first : (r x left others : List ℕ) (p : ℕ) → left ≡ p ∷ others → AreUnwritten r x left → reference_at x p ≡ reference_at r p
unwritten_first r x left others p split so_far = (rw split at so_far.same).0

-- the first of the places lies within the record
pub unwritten_inside : (r x left others : List ℕ) (p : ℕ) → left ≡ p ∷ others → AreUnwritten r x left → p + 8 ≤ length x
unwritten_inside r x left others p split so_far =
    let fits : Fits so_far.from (p ∷ others) (length x) = rw split at so_far.fits in
    omega (arith, fits.2, ends_behind (p + 4) others fits.0 fits.1.1)

-- the others keep theirs
pub unwritten_more : (r x after left others : List ℕ) (p n : ℕ) → left ≡ p ∷ others → after ≡ put_four x (4 + p) n → AreUnwritten r x left → AreUnwritten r after others
unwritten_more r x after left others p n split changed so_far =
    let fits : Fits so_far.from (p ∷ others) (length x) = rw split at so_far.fits in
    let same = rw split at so_far.same in
    let inside : 4 + p + 4 ≤ length x = omega (arith, fits.2, ends_behind (p + 4) others fits.0 fits.1.1) in
    let long : length after ≡ length x = ap length changed ∙ put_len x (4 + p) n inside in
    record {
      from = p + 4;
      fits = (fits.0, fits.1.1, omega (arith, fits.2, long));
      same = rw changed (same-behind r x p n (p + 4) others fits.0 (omega arith) fits.1.1 fits.2 same.1);
    }

-- ---- one reference

-- a simple number stays
pub simple_number : (f : ℕ → ℕ) (n : ℕ) → n < first_index → n ≡ renumber_one f n
unfolding renumber_one
simple_number f n small = rw (lt-ltb n first_index small) refl

-- the number of a position becomes that of its number
pub given_number : (f : ℕ → ℕ) (n : ℕ) → first_index ≤ n → first_index + f (n - first_index) ≡ renumber_one f n
unfolding renumber_one
given_number f n large = rw (le-ltb n first_index large) refl

-- one reference more names an earlier record
pub names_more : (many : ℕ) (r left others : List ℕ) (p : ℕ) (P : Type 0) → left ≡ p ∷ others → reference_at r p < first_index + many → (NamesThere many (map (reference_at r) left) → P) → NamesThere many (map (reference_at r) others) → P
names_more many r left others p P split there so_far rest = so_far (rw split (there, rest))

-- ---- How long a renumbered record is

pub padded_record : (r x : List ℕ) → IsRecord r → length x ≡ length r → length x % 4 ≡ 0
padded_record r x h same = ap (λ (n : ℕ). n % 4) same ∙ h.padded

pub long_record : (r x : List ℕ) → IsRecord r → length x ≡ length r → 4 ≤ length x
long_record r x h same = omega (arith, h.long, same)

pub renumbered_long : (f : ℕ → ℕ) (r : List ℕ) → IsChecked r → length (renumbered f r) ≡ length r
unfolding renumbered
renumbered_long f r checked = filled_len r (renumber f (references r)) checked
