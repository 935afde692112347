-- Laws of equal trees, and of the position of a tree in a list.
use Rattle.std.proofs.Common.{◌≡◌, ◌≢◌, ℕ, ◌<◌, ◌⊎◌, true, false, List, length, get_or, refl, sym, ◌∙◌, subst, arith, inl, inr}
use Rattle.std.proofs.lemmas.Bool.{and_parts, and_from, eqb-true, eq-eqb, cases_Bool, cases_lt}
use lib.Dec.{eqb}
use Rattle.std.proofs.lemmas.Slice.Eq.{bytes_eq-Decides}
use Rattle.std.proofs.lemmas.List.{get_or_default}
use Rattle.std.proofs.lemmas.List.Elements.{Contains-get_or}
use Rattle.std.proofs.lemmas.List.Sums.{position_or_len_is, fails_before_first, passes_at_first}
use Rattle.std.specs.List.{position_or_len, AllPairs, Contains}
use Rattle.std.specs.Str.{bytes_eq}
use Rattle.type_trees.specs.Tree.{Tree, Branches, tree, no_branch, simple, branch, nothing, same_tree, same_branches}
use Rattle.type_trees.specs.Canon.{position_in}

mutual
  unfolding same_tree

  pub same_tree-itself : (t : Tree) → same_tree t t ≡ true
  same_tree-itself (tree b bs) = and_from (bytes_eq b b) (same_branches bs bs) ((bytes_eq-Decides b b).1 refl) (same_branches-itself bs)

  same_branches-itself : (bs : Branches) → same_branches bs bs ≡ true
  same_branches-itself no_branch = refl
  same_branches-itself (simple n bs) = and_from _ (same_branches bs bs) (eq-eqb n n refl) (same_branches-itself bs)
  same_branches-itself (branch t bs) = and_from (same_tree t t) (same_branches bs bs) (same_tree-itself t) (same_branches-itself bs)

mutual
  unfolding same_tree

  pub same_tree-true : (t u : Tree) → same_tree t u ≡ true → t ≡ u
  same_tree-true (tree b bs) (tree c cs) h =
      let e = and_parts (bytes_eq b c) (same_branches bs cs) h in
      let x : b ≡ c = (bytes_eq-Decides b c).0 e.0 in
      let y : bs ≡ cs = same_branches-true bs cs e.1 in
      rw (x, y) refl

  same_branches-true : (bs cs : Branches) → same_branches bs cs ≡ true → bs ≡ cs
  same_branches-true no_branch no_branch h = refl
  same_branches-true no_branch (simple m cs) h = absurd cc
  same_branches-true no_branch (branch u cs) h = absurd cc
  same_branches-true (simple n bs) no_branch h = absurd cc
  same_branches-true (simple n bs) (simple m cs) h =
      let e = and_parts (eqb n m) (same_branches bs cs) h in
      let x : n ≡ m = eqb-true n m e.0 in
      let y : bs ≡ cs = same_branches-true bs cs e.1 in
      rw (x, y) refl
  same_branches-true (simple n bs) (branch u cs) h = absurd cc
  same_branches-true (branch t bs) no_branch h = absurd cc
  same_branches-true (branch t bs) (simple m cs) h = absurd cc
  same_branches-true (branch t bs) (branch u cs) h =
      let e = and_parts (same_tree t u) (same_branches bs cs) h in
      let x : t ≡ u = same_tree-true t u e.0 in
      let y : bs ≡ cs = same_branches-true bs cs e.1 in
      rw (x, y) refl

-- two trees are equal, or same_tree is false of them
pub same_or_not : (t u : Tree) → (t ≡ u) ⊎ (same_tree t u ≡ false)
same_or_not t u = elim (cases_Bool (same_tree t u)) [ inl same ↦ inl (same_tree-true t u same) | inr apart ↦ inr apart ]

pub differ : (t u : Tree) → t ≢ u → same_tree t u ≡ false
differ t u ne = elim (same_or_not t u) [ inl e ↦ absurd (ne e) | inr apart ↦ apart ]

-- t is at its position, if that is below the length
pub get_or-position_in : (l : List Tree) (t : Tree) → position_in l t < length l → get_or l (position_in l t) nothing ≡ t
unfolding position_in
get_or-position_in l t lt = sym (same_tree-true t (get_or l (position_or_len (same_tree t) l) nothing) (passes_at_first (same_tree t) l nothing lt))

-- t is not before its position
pub before_position : (l : List Tree) (t : Tree) (k : ℕ) → k < position_in l t → same_tree t (get_or l k nothing) ≡ false
unfolding position_in
before_position l t k lt = fails_before_first (same_tree t) l k nothing lt

pub position_in-is : (l : List Tree) (t : Tree) (i : ℕ) → i < length l → get_or l i nothing ≡ t → ((k : ℕ) → k < i → same_tree t (get_or l k nothing) ≡ false) → position_in l t ≡ i
unfolding position_in
position_in-is l t i lt at below = position_or_len_is (same_tree t) l i nothing (omega arith) below (λ _. rw at (same_tree-itself t))

pub position_in-lt-length : (l : List Tree) (t : Tree) → Contains l t → position_in l t < length l
position_in-lt-length l t h = elim (cases_lt (position_in l t) (length l)) [
  | inl lt ↦ lt
  | inr ge ↦
      let le = h.1 in
      let none : same_tree t (get_or l h.0 nothing) ≡ false = before_position l t h.0 (omega arith) in
      let at : get_or l h.0 nothing ≡ t = get_or_default l h.0 nothing t le ∙ h.2 in
      let same = same_tree-itself t in
      let mixed : same_tree t t ≡ false = subst (λ (x : Tree). same_tree t x ≡ false) at none in
      absurd cc
]

pub Contains-position_in : (l : List Tree) (t : Tree) → position_in l t < length l → Contains l t
Contains-position_in l t lt = subst (Contains l) (get_or-position_in l t lt) (Contains-get_or l (position_in l t) nothing lt)

-- if trees are distinct, each has the position at which it is
pub position_in-get_or : (l : List Tree) (i : ℕ) → AllPairs (λ t u. t ≢ u) l → i < length l → position_in l (get_or l i nothing) ≡ i
position_in-get_or l i distinct lt =
    position_in-is l (get_or l i nothing) i lt refl (λ k less. differ (get_or l i nothing) (get_or l k nothing) (λ e. distinct k i nothing less lt (sym e)))

pub unlike : (t u : Tree) → t ≡ u → same_tree t u ≡ false → ⊥
unlike t u e apart =
    let same = same_tree-itself t in
    let mixed : same_tree t t ≡ false = subst (λ (x : Tree). same_tree t x ≡ false) (sym e) apart in
    absurd cc
