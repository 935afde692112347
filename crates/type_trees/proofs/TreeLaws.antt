-- There is exactly one tree at each position of records that make types, and it is closed.
use Rattle.std.proofs.Common.{◌≡◌, ℕ, zero, suc, ◌-◌, ◌<◌, List, [], ◌∷◌, length, get_or, refl, sym, ap, ◌∙◌, subst, arith, inl, inr}
use Rattle.std.proofs.lemmas.Bool.{cases_lt}
use Rattle.std.specs.List.{AllByRecursion}
use Rattle.cv_leaves.specs.Checks.{places_of}
use Rattle.cv_leaves.specs.Place.{IsChecked}
use Rattle.cv_leaves.specs.References.{references, blanked}
use Rattle.type_trees.specs.Tree.{Tree, Branches, tree, no_branch, simple, branch, count, trees_in, IsClosed, AreClosed, IsTreeAt, AreBranches, IsType, IsRanked, NamesLower}
use Rattle.type_trees.specs.Laws.{OneTreeEach, BranchesAreTypes}
use Rattle.type_trees.specs.Table.{AreGood}
use Rattle.type_trees.specs.Types.{AreTypes}
use Rattle.cv_leaves.proofs.FilledLaws.{reference_each, blanked_checked, blanked_framed, blanked_places, blanked_stays}
use Rattle.tpi_records.specs.Records.{IsRecord}
use Rattle.tpi_records.specs.Header.{first_index}

-- a tree at a position of good records is closed
abbrev pub StandingIsClosed : Type 0
StandingIsClosed = (r : List (List ℕ)) (i : ℕ) (t : Tree) → AreGood r → IsTreeAt r i t → IsClosed t

-- ---- At most one tree

mutual
  -- two trees at the same position are equal
  pub one : (records : List (List ℕ)) (i : ℕ) (t u : Tree) → IsTreeAt records i t → IsTreeAt records i u → t ≡ u
  one records i (tree b bs) (tree c cs) h k =
      let e : bs ≡ cs = same records (references (get_or records i [])) bs cs h.2 k.2 in
      let f : b ≡ c = sym h.1 ∙ k.1 in
      rw (e, f) refl

  -- the same references have the same branches
  same : (records : List (List ℕ)) (ns : List ℕ) (bs cs : Branches) → AreBranches records ns bs → AreBranches records ns cs → bs ≡ cs
  same records ns no_branch no_branch h k = refl
  same records ns no_branch (simple m cs) h k = let e : ns ≡ k.0 ∷ k.1 = k.2 in absurd cc
  same records ns no_branch (branch t cs) h k = let e : ns ≡ k.0 ∷ k.1 = k.2 in absurd cc
  same records ns (simple m bs) no_branch h k = let e : ns ≡ h.0 ∷ h.1 = h.2 in absurd cc
  same records ns (branch t bs) no_branch h k = let e : ns ≡ h.0 ∷ h.1 = h.2 in absurd cc
  same records ns (simple m bs) (simple l cs) h k =
      let e : h.0 ∷ h.1 ≡ k.0 ∷ k.1 = sym h.2 ∙ k.2 in
      let n : h.0 ≡ k.0 = cc in
      let rest : h.1 ≡ k.1 = cc in
      let tail : bs ≡ cs = same records h.1 bs cs h.5 (subst (λ (x : List ℕ). AreBranches records x cs) (sym rest) k.5) in
      let head : m ≡ l = sym h.4 ∙ n ∙ k.4 in
      rw (tail, head) refl
  same records ns (simple m bs) (branch t cs) h k =
      let e : h.0 ∷ h.1 ≡ k.0 ∷ k.1 = sym h.2 ∙ k.2 in
      let n : h.0 ≡ k.0 = cc in
      absurd (omega (arith, n, h.3, k.3))
  same records ns (branch t bs) (simple l cs) h k =
      let e : h.0 ∷ h.1 ≡ k.0 ∷ k.1 = sym h.2 ∙ k.2 in
      let n : h.0 ≡ k.0 = cc in
      absurd (omega (arith, n, h.3, k.3))
  same records ns (branch t bs) (branch u cs) h k =
      let e : h.0 ∷ h.1 ≡ k.0 ∷ k.1 = sym h.2 ∙ k.2 in
      let n : h.0 ≡ k.0 = cc in
      let rest : h.1 ≡ k.1 = cc in
      let tail : bs ≡ cs = same records h.1 bs cs h.5 (subst (λ (x : List ℕ). AreBranches records x cs) (sym rest) k.5) in
      let head : t ≡ u = one records (h.0 - first_index) t u h.4 (subst (λ (x : ℕ). IsTreeAt records (x - first_index) u) (sym n) k.4) in
      rw (tail, head) refl

-- ---- At least one tree

-- references have branches, if there is a tree at each position of lower rank
grown : (records : List (List ℕ)) (rank : ℕ → ℕ) (i : ℕ) (below : (j : ℕ) → j < length records → rank j < rank i → (t : Tree) × IsTreeAt records j t) (ns : List ℕ) → AllByRecursion (NamesLower records rank i) ns
    → (bs : Branches) × AreBranches records ns bs
grown records rank i below [] h = (no_branch, refl)
grown records rank i below (n ∷ ns) h =
    let rest = grown records rank i below ns h.1 in
    elim (cases_lt n first_index) [
      | inl small ↦ (simple n rest.0, (n, ns, refl, small, refl, rest.1))
      | inr large ↦ elim h.0 [
        | inl small ↦ absurd (omega (arith, small, large))
        | inr lower ↦ let t = below (n - first_index) lower.0 lower.1 in (branch t.0 rest.0, (n, ns, refl, large, t.1, rest.1))
      ]
    ]

-- there is a tree at each position of rank below k, by induction on k
some_below : (records : List (List ℕ)) (rank : ℕ → ℕ) (ranked : IsRanked records rank) (k i : ℕ) → rank i < k → i < length records → (t : Tree) × IsTreeAt records i t
some_below records rank ranked zero i lt inside = absurd (omega (arith, lt))
some_below records rank ranked (suc k) i lt inside =
    let below : (j : ℕ) → j < length records → rank j < rank i → (t : Tree) × IsTreeAt records j t = λ j in_records l. some_below records rank ranked k j (omega (arith, l, lt)) in_records in
    let bs = grown records rank i below (references (get_or records i [])) (ranked i inside) in
    (tree (blanked (get_or records i [])) bs.0, (inside, refl, bs.1))

-- there is a tree at each position of records that have a rank
pub tree_there : (records : List (List ℕ)) (rank : ℕ → ℕ) (i : ℕ) → IsRanked records rank → i < length records → (t : Tree) × IsTreeAt records i t
tree_there records rank i ranked inside = some_below records rank ranked (suc (rank i)) i (omega arith) inside

-- ---- Closed trees

-- what holds of all records holds of the record at a position
pub at_position : (P : List ℕ → Type 0) (records : List (List ℕ)) (i : ℕ) → AllByRecursion P records → i < length records → P (get_or records i [])
at_position P [] i each inside = absurd (omega (arith, inside))
at_position P (r ∷ rs) zero each inside = each.0
at_position P (r ∷ rs) (suc i) each inside = at_position P rs i each.1 (omega (arith, inside))

-- there is a branch for each reference
branch_each : (records : List (List ℕ)) (ns : List ℕ) (bs : Branches) → AreBranches records ns bs → length ns ≡ count bs
branch_each records ns no_branch h = ap length h
branch_each records ns (simple m bs) h = omega (arith, branch_each records h.1 bs h.5, ap length h.2)
branch_each records ns (branch t bs) h = omega (arith, branch_each records h.1 bs h.5, ap length h.2)

mutual
  -- a tree at a position of good records is closed
  pub standing_is_closed : StandingIsClosed
  standing_is_closed records i (tree b bs) good h =
      let r = get_or records i [] in
      let checked = good.checked i h.0 in
      let many : length (places_of (blanked r)) ≡ count bs = ap length (blanked_places r checked) ∙ sym (reference_each r) ∙ branch_each records (references r) bs h.2 in
      subst (λ (y : List ℕ). IsClosed (tree y bs)) h.1
      (blanked_framed r checked (good.framed i h.0), blanked_checked r checked, blanked_stays r checked, many, branches_closed records (references r) bs good h.2)

  -- its branches are closed too
  branches_closed : (records : List (List ℕ)) (ns : List ℕ) (bs : Branches) → AreGood records → AreBranches records ns bs → AreClosed bs
  branches_closed records ns no_branch good h = tt
  branches_closed records ns (simple m bs) good h = (subst (λ (k : ℕ). k < first_index) h.4 h.3, branches_closed records h.1 bs good h.5)
  branches_closed records ns (branch t bs) good h = (standing_is_closed records (h.0 - first_index) t good h.4, branches_closed records h.1 bs good h.5)

-- ---- The laws

-- records that make types are good
types_good : (records : List (List ℕ)) → AreTypes records → AreGood records
types_good records types = record {
  framed = λ i inside. at_position IsRecord records i types.framed inside;
  checked = λ i inside. at_position IsChecked records i types.checked inside;
}

-- there is exactly one tree at each position, and it is closed
pub one_tree_each : OneTreeEach
one_tree_each records types i inside =
    let t = tree_there records types.ranked.0 i types.ranked.1 inside in
    (t.0, standing_is_closed records i t.0 (types_good records types) t.1, t.1, λ u k. one records i t.0 u t.1 k)

-- the branches of a record that are trees are types of the records
named_stand : (records : List (List ℕ)) (ns : List ℕ) (bs : Branches) → AreBranches records ns bs → AllByRecursion (IsType records) (trees_in bs)
named_stand records ns no_branch h = tt
named_stand records ns (simple m bs) h = named_stand records h.1 bs h.5
named_stand records ns (branch t bs) h = ((h.0 - first_index, h.4), named_stand records h.1 bs h.5)

-- the branches of a type are types
pub branches_are_types : BranchesAreTypes
branches_are_types records (tree b bs) (i, stands) = named_stand records (references (get_or records i [])) bs stands.2
