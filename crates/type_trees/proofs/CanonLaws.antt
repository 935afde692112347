-- Two canonical lists with the same members are equal.
use Rattle.std.proofs.Common.{◌≡◌, ◌≢◌, ℕ, zero, suc, ◌<◌, ◌≤◌, false, List, length, get_or, refl, sym, ap, ◌∙◌, subst, arith, inl, inr}
use Rattle.std.specs.declared.cmp.Ordering.TheVariants.{Less}
use Rattle.std.specs.Ordering.{ordering_reverse}
use Rattle.std.specs.Cmp.{IsTotalOrder}
use Rattle.std.specs.Cmp.Lexicographic.{on_texts}
use Rattle.std.specs.List.{AllByRecursion, Contains}
use Rattle.std.specs.List.Sorted.{IsStrictlySortedBy}
use Rattle.std.proofs.lemmas.Bool.{cases_lt, cases_order}
use Rattle.std.proofs.lemmas.Cmp.{on_total, then_total, nat_cmp_total}
use Rattle.std.proofs.lemmas.List.{get_or_default, ext_get_or}
use Rattle.std.proofs.lemmas.List.Elements.{Contains-get_or}
use Rattle.std.proofs.lemmas.Map.Keys.{sorted_from_all_adjacent, Less-from_sorted}
use Rattle.type_trees.specs.Tree.{Tree, Branches, no_branch, simple, branch, nothing, branches_of, trees_in, same_tree}
use Rattle.type_trees.specs.Depth.{depth}
use Rattle.type_trees.specs.Canon.{position_in, numbers, text, canonical_order, Canonical}
use Rattle.type_trees.specs.Laws.{OneCanonicalList}
use Rattle.type_trees.proofs.SameLaws.{same_or_not, unlike, get_or-position_in, before_position, position_in-is, position_in-lt-length}

pub canon_total : (l : List Tree) → IsTotalOrder (canonical_order l)
canon_total l = then_total (on_total depth nat_cmp_total) (on_texts (text l))

pub sorted : (l : List Tree) → Canonical l → IsStrictlySortedBy (canonical_order l) l
sorted l c = sorted_from_all_adjacent (canon_total l) l nothing c.ordered

-- l and m have the same trees below position k
abbrev pub SameBelow : ℕ → List Tree → List Tree → Type 0
SameBelow k l m = (i : ℕ) → i < k → get_or l i nothing ≡ get_or m i nothing

-- a tree below position k in l has the same position in m
pub position_in-below : (k : ℕ) (l m : List Tree) (t : Tree) → SameBelow k l m → k ≤ length l → k ≤ length m → position_in l t < k → position_in m t ≡ position_in l t
position_in-below k l m t same kl km lt =
    position_in-is m t (position_in l t) (omega arith)
    (sym (same (position_in l t) lt) ∙ get_or-position_in l t (omega arith))
    (λ j less. subst (λ (x : Tree). same_tree t x ≡ false) (same j (omega arith)) (before_position l t j less))

pub numbers-below : (k : ℕ) (l m : List Tree) (bs : Branches) → SameBelow k l m → k ≤ length l → k ≤ length m → AllByRecursion (λ u. position_in l u < k) (trees_in bs) → numbers l bs ≡ numbers m bs
numbers-below k l m no_branch same kl km lower = refl
numbers-below k l m (simple n bs) same kl km lower = let e = numbers-below k l m bs same kl km lower in rw e refl
numbers-below k l m (branch t bs) same kl km lower =
    let e = numbers-below k l m bs same kl km lower.1 in
    let p = position_in-below k l m t same kl km lower.0 in
    rw (e, p) refl

pub text-below : (k : ℕ) (l m : List Tree) (t : Tree) → SameBelow k l m → k ≤ length l → k ≤ length m → AllByRecursion (λ u. position_in l u < k) (trees_in (branches_of t)) → text l t ≡ text m t
unfolding text
text-below k l m t same kl km lower = let e = numbers-below k l m (branches_of t) same kl km lower in rw e refl

-- where l and m differ at k, l has the tree of m later
later : (k : ℕ) (l m : List Tree) → Canonical l → Canonical m → SameBelow k l m → k < length l → k < length m → Contains l (get_or m k nothing) → get_or l k nothing ≢ get_or m k nothing
    → canonical_order l (get_or l k nothing) (get_or m k nothing) ≡ Less
later k l m cl cm same kl km held ne =
    let y : Tree = get_or m k nothing in
    let j : ℕ = position_in l y in
    let lt : j < length l = position_in-lt-length l y held in
    let at : get_or l j nothing ≡ y = get_or-position_in l y lt in
    elim (cases_order j k) [
      | inl e ↦ absurd (ne (sym (ap (λ (i : ℕ). get_or l i nothing) e) ∙ at))
      | inr w ↦ elim w [
        | inl less ↦ absurd (cm.distinct j k nothing less km (sym (same j less) ∙ at))
        | inr more ↦ subst (λ (x : Tree). canonical_order l (get_or l k nothing) x ≡ Less) at (Less-from_sorted (canonical_order l) l k j nothing (sorted l cl) more lt)
      ]
    ]

SameBelow-sym : (k : ℕ) (l m : List Tree) → SameBelow k l m → SameBelow k m l
SameBelow-sym k l m same i lt = sym (same i lt)

-- two lists order two trees alike if they give them the same texts
pub canonical_order-same : (l m : List Tree) (x y : Tree) → text l x ≡ text m x → text l y ≡ text m y → canonical_order l x y ≡ canonical_order m x y
canonical_order-same l m x y ex ey = rw (ex, ey) refl

not_both : (l : List Tree) (x y : Tree) → canonical_order l x y ≡ Less → canonical_order l y x ≡ Less → ⊥
not_both l x y a b =
    let o = (canon_total l).antisymm x y in
    let e : Less ≡ ordering_reverse Less = sym a ∙ o ∙ ap ordering_reverse b in
    absurd cc

same_next : (k : ℕ) (l m : List Tree) → Canonical l → Canonical m → SameBelow k l m → k < length l → k < length m
    → Contains l (get_or m k nothing) → Contains m (get_or l k nothing) → get_or l k nothing ≡ get_or m k nothing
same_next k l m cl cm same kl km in_l in_m =
    elim (same_or_not (get_or l k nothing) (get_or m k nothing)) [
      | inl e ↦ e
      | inr apart ↦
          let x : Tree = get_or l k nothing in
          let y : Tree = get_or m k nothing in
          let ne : x ≢ y = λ e. unlike x y e apart in
          let one : canonical_order l x y ≡ Less = later k l m cl cm same kl km in_l ne in
          let two : canonical_order m y x ≡ Less = later k m l cm cl (SameBelow-sym k l m same) km kl in_m (λ e. ne (sym e)) in
          let ex : text l x ≡ text m x = text-below k l m x same (omega arith) (omega arith) (cl.earlier k kl) in
          let ey : text m y ≡ text l y = text-below k m l y (SameBelow-sym k l m same) (omega arith) (omega arith) (cm.earlier k km) in
          let three : canonical_order m x y ≡ Less = sym (canonical_order-same l m x y ex (sym ey)) ∙ one in
          absurd (not_both m x y three two)
    ]

-- l and m have the same trees as far as both go
agree : (l m : List Tree) → Canonical l → Canonical m → ((t : Tree) → Contains l t → Contains m t) → ((t : Tree) → Contains m t → Contains l t)
    → (k : ℕ) → k ≤ length l → k ≤ length m → SameBelow k l m
agree l m cl cm lm ml zero kl km = λ i lt. absurd (omega arith)
agree l m cl cm lm ml (suc k) kl km =
    let before : SameBelow k l m = agree l m cl cm lm ml k (omega arith) (omega arith) in
    let next : get_or l k nothing ≡ get_or m k nothing =
    same_next k l m cl cm before (omega arith) (omega arith)
    (ml (get_or m k nothing) (Contains-get_or m k nothing (omega arith)))
    (lm (get_or l k nothing) (Contains-get_or l k nothing (omega arith))) in
    λ i lt. elim (cases_lt i k) [
      | inl less ↦ before i less
      | inr more ↦ let e : i ≡ k = omega arith in rw e next
    ]

-- no list is longer than the other
not_longer : (l m : List Tree) → Canonical m → ((t : Tree) → Contains m t → Contains l t) → SameBelow (length l) l m → length l < length m → ⊥
not_longer l m cm ml same lt =
    let k : ℕ = length l in
    let y : Tree = get_or m k nothing in
    let held = ml y (Contains-get_or m k nothing lt) in
    let in_l = held.1 in
    let at : get_or l held.0 nothing ≡ y = get_or_default l held.0 nothing y in_l ∙ held.2 in
    cm.distinct held.0 k nothing in_l lt (sym (same held.0 in_l) ∙ at)

pub one_canonical_list : OneCanonicalList
one_canonical_list l m cl cm members =
    let lm : (t : Tree) → Contains l t → Contains m t = λ t. (members t).0 in
    let ml : (t : Tree) → Contains m t → Contains l t = λ t. (members t).1 in
    elim (cases_order (length l) (length m)) [
      | inl e ↦ ext_get_or nothing l m e (agree l m cl cm lm ml (length l) (omega arith) (omega arith))
      | inr w ↦ elim w [
        | inl less ↦ absurd (not_longer l m cm ml (agree l m cl cm lm ml (length l) (omega arith) (omega arith)) less)
        | inr more ↦ absurd (not_longer m l cl lm (agree m l cm cl ml lm (length m) (omega arith) (omega arith)) more)
      ]
    ]
