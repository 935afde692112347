-- The texts of a canonical list are good records, and its trees are at their positions.
use Rattle.std.proofs.Common.{◌≡◌, ℕ, suc, ◌+◌, ◌-◌, ◌*◌, ◌<◌, ◌≤◌, List, [], ◌∷◌, length, get_or, refl, sym, ap, ◌∙◌, subst, arith, inl, inr}
use Rattle.std.specs.List.{AllByRecursion, Contains}
use Rattle.std.proofs.lemmas.List.{length-map, get_or-map}
use Rattle.std.proofs.lemmas.List.Sums.{sum_by-cons}
use Rattle.cv_leaves.specs.References.{references, blanked}
use Rattle.cv_leaves.specs.Place.{IsChecked}
use Rattle.tpi_records.specs.Records.{IsRecord}
use Rattle.type_trees.specs.Tree.{Tree, Branches, tree, no_branch, simple, branch, nothing, blank_of, branches_of, trees_in, IsClosed, AreClosed, IsTreeAt, AreBranches, NamesLower}
use Rattle.type_trees.specs.Canon.{position_in, numbers, text, weight, Canonical, HoldsBranches, texts}
use Rattle.type_trees.specs.Laws.{CanonicalReadsBack}
use Rattle.cv_leaves.proofs.FilledLaws.{filled_checked, filled_framed}
use Rattle.type_trees.proofs.SameLaws.{get_or-position_in, Contains-position_in}
use Rattle.type_trees.proofs.TextLaws.{blank-text, refs-text}
use Rattle.type_trees.proofs.TreeLaws.{one}
use Rattle.tpi_records.specs.Header.{first_index}

-- the blank of a closed tree has its framing
blank_framed : (t : Tree) → IsClosed t → IsRecord (blank_of t)
blank_framed (tree b bs) closed = closed.0

-- each tree weighs at least four bytes
pub weight-many : (l : List Tree) → ((i : ℕ) → i < length l → IsClosed (get_or l i nothing)) → 4 * length l ≤ weight l
unfolding weight
weight-many [] closed = omega arith
weight-many (t ∷ l) closed =
    let rest : 4 * length l ≤ weight l = weight-many l (λ i lt. closed (suc i) (omega arith)) in
    let head : 4 ≤ length (blank_of t) = (blank_framed t (closed 0 (omega arith))).long in
    rw (sum_by-cons (λ u. length (blank_of u)) t l) (omega arith)

pub few : (l : List Tree) → Canonical l → length l ≤ 4294963200
few l c = let many = weight-many l c.closed in let light = c.light in omega arith

earlier_held : (l : List Tree) (i : ℕ) (us : List Tree) → i ≤ length l → AllByRecursion (λ u. position_in l u < i) us → AllByRecursion (Contains l) us
earlier_held l i [] le h = tt
earlier_held l i (u ∷ us) le h = (Contains-position_in l u (omega (arith, h.0)), earlier_held l i us le h.1)

pub holds : (l : List Tree) → Canonical l → (i : ℕ) → i < length l → HoldsBranches l (get_or l i nothing)
holds l c i lt = earlier_held l i (trees_in (branches_of (get_or l i nothing))) (omega arith) (c.earlier i lt)

pub text-at : (l : List Tree) (i : ℕ) → i < length l → get_or (texts l) i [] ≡ text l (get_or l i nothing)
text-at l i lt = get_or-map (text l) l i nothing [] lt

refs-at : (l : List Tree) → Canonical l → (i : ℕ) → i < length l → references (get_or (texts l) i []) ≡ numbers l (branches_of (get_or l i nothing))
refs-at l c i lt = ap references (text-at l i lt) ∙ refs-text l (get_or l i nothing) (few l c) (c.closed i lt) (holds l c i lt)

-- the numbers of the branches name earlier texts
names_lower : (l : List Tree) (i : ℕ) (bs : Branches) → i < length l → AreClosed bs → AllByRecursion (λ u. position_in l u < i) (trees_in bs) → AllByRecursion (NamesLower (texts l) (λ j. j) i) (numbers l bs)
names_lower l i no_branch lt closed lower = tt
names_lower l i (simple n bs) lt closed lower = (inl closed.0, names_lower l i bs lt closed.1 lower)
names_lower l i (branch t bs) lt closed lower =
    let same = length-map l (text l) in
    let less = lower.0 in
    (inr (omega arith, omega arith), names_lower l i bs lt closed.1 lower.1)

-- each tree of l is at its position
mutual
  stands_at : (l : List Tree) → Canonical l → (i : ℕ) → i < length l → (t : Tree) → get_or l i nothing ≡ t → IsTreeAt (texts l) i t
  stands_at l c i lt (tree b bs) at =
      let same = length-map l (text l) in
      let closed : IsClosed (tree b bs) = subst IsClosed at (c.closed i lt) in
      let lower : AllByRecursion (λ u. position_in l u < i) (trees_in bs) = subst (λ (x : Tree). AllByRecursion (λ u. position_in l u < i) (trees_in (branches_of x))) at (c.earlier i lt) in
      let shown : get_or (texts l) i [] ≡ text l (tree b bs) = text-at l i lt ∙ ap (text l) at in
      let refs_are : references (get_or (texts l) i []) ≡ numbers l bs = refs-at l c i lt ∙ ap (λ (x : Tree). numbers l (branches_of x)) at in
      let branches : AreBranches (texts l) (numbers l bs) bs = branches_at l c i lt bs lower closed.4 in
      (omega arith, ap blanked shown ∙ blank-text l (tree b bs) closed, subst (λ (ns : List ℕ). AreBranches (texts l) ns bs) (sym refs_are) branches)

  branches_at : (l : List Tree) → Canonical l → (i : ℕ) → i < length l → (bs : Branches) → AllByRecursion (λ u. position_in l u < i) (trees_in bs) → AreClosed bs → AreBranches (texts l) (numbers l bs) bs
  branches_at l c i lt no_branch lower closed = refl
  branches_at l c i lt (simple n bs) lower closed = (n, numbers l bs, refl, closed.0, refl, branches_at l c i lt bs lower closed.1)
  branches_at l c i lt (branch t bs) lower closed =
      let less = lower.0 in
      let e : first_index + position_in l t - first_index ≡ position_in l t = omega arith in
      let there : IsTreeAt (texts l) (position_in l t) t = stands_at l c (position_in l t) (omega arith) t (get_or-position_in l t (omega arith)) in
      (first_index + position_in l t, numbers l bs, refl, omega arith, subst (λ (j : ℕ). IsTreeAt (texts l) j t) (sym e) there, branches_at l c i lt bs lower.1 closed.1)

in_range : (r : List (List ℕ)) (i : ℕ) (u : Tree) → IsTreeAt r i u → i < length r
in_range r i (tree b bs) h = h.0

closed_branches : (t : Tree) → IsClosed t → AreClosed (branches_of t)
closed_branches (tree b bs) closed = closed.4

text-framed : (l : List Tree) (t : Tree) → IsClosed t → IsRecord (text l t)
unfolding text
text-framed l (tree b bs) closed = filled_framed b (numbers l bs) closed.1 closed.0

text-checked : (l : List Tree) (t : Tree) → IsClosed t → IsChecked (text l t)
unfolding text
text-checked l (tree b bs) closed = filled_checked b (numbers l bs) closed.1

pub canonical_reads_back : CanonicalReadsBack
canonical_reads_back l c =
    let same = length-map l (text l) in
    let stand : (i : ℕ) → i < length l → IsTreeAt (texts l) i (get_or l i nothing) = λ i lt. stands_at l c i lt (get_or l i nothing) refl in
    record {
      good = record {
        framed = λ i lt. let at : i < length l = omega arith in rw (text-at l i at) (text-framed l (get_or l i nothing) (c.closed i at));
        checked = λ i lt. let at : i < length l = omega arith in rw (text-at l i at) (text-checked l (get_or l i nothing) (c.closed i at));
      };
      lower = λ i lt. let at : i < length l = omega arith in rw (refs-at l c i at) (names_lower l i (branches_of (get_or l i nothing)) at (closed_branches (get_or l i nothing) (c.closed i at)) (c.earlier i at));
      stand = stand;
      alone = λ i u h. let at : i < length l = omega (arith, in_range (texts l) i u h) in one (texts l) i u (get_or l i nothing) h (stand i at);
    }
