-- The next level of a table's canonical list.
use Rattle.std.proofs.Common.{◌≡◌, ◌≢◌, ℕ, zero, suc, ◌+◌, ◌<◌, ◌≤◌, List, [], ◌∷◌, ◌++◌, length, get_or, refl, sym, ap, ◌∙◌, subst, arith, inl, inr, length-append}
use Rattle.std.specs.List.{AllByRecursion, AllPairs, Contains, concat}
use Rattle.std.proofs.lemmas.Bool.{cases_lt}
use Rattle.std.proofs.lemmas.List.{get_or_default}
use Rattle.std.proofs.lemmas.List.Elements.{Contains-get_or, Contains-append_cases, Contains-append_left, Contains-append_right}
use Rattle.std.proofs.Math.ListN.{get_or-append}
use Rattle.std.proofs.Math.Seq.{get_or-append_seam}
use Rattle.type_trees.specs.Tree.{Tree, Branches, tree, no_branch, simple, branch, nothing, blank_of, branches_of, trees_in, IsTreeAt, IsType}
use Rattle.type_trees.specs.Depth.{depth, depth_over}
use Rattle.type_trees.specs.Canon.{weight, text, Canonical}
use Rattle.type_trees.specs.Table.{IsTable}
use Rattle.type_trees.proofs.TreeLaws.{one, tree_there, standing_is_closed}
use Rattle.type_trees.proofs.WeightLaws.{weight_grows, weight-cons, weight-none}
use Rattle.type_trees.proofs.TableLaws.{table_is_set, branches_stand}
use Rattle.cv_leaves.proofs.FilledLaws.{blanked_len}
use Rattle.type_trees.proofs.LevelLaws.{level_adds, level_ordered, distinct-ordered, IsLevel}
use Rattle.std.specs.Prelude.{◌↔◌}
use Rattle.std.specs.declared.cmp.Ordering.TheVariants.{Less}
use Rattle.std.specs.Ordering.{nat_cmp}
use Rattle.std.specs.Cmp.Lexicographic.{slice_cmp}

-- there is a tree at each position of a table
abbrev pub TreesOfTable : Type 0
TreesOfTable =
    (r : List (List ℕ)) → IsTable r
    → (s : List Tree) × (length s ≡ length r) × ((i : ℕ) → i < length r → IsTreeAt r i (get_or s i nothing))

-- distinct trees of a table weigh at most as much as the table has bytes
abbrev pub TableWeighs : Type 0
TableWeighs =
    (r : List (List ℕ)) (l : List Tree) → IsTable r → AllPairs (λ t u. t ≢ u) l → ((t : Tree) → Contains l t → IsType r t)
    → weight l ≤ length (concat r)

-- all trees of a table weigh as much as the table has bytes
abbrev pub TableWeighsAll : Type 0
TableWeighsAll =
    (r : List (List ℕ)) (l : List Tree) → IsTable r → AllPairs (λ t u. t ≢ u) l → ((t : Tree) → Contains l t ↔ IsType r t)
    → weight l ≡ length (concat r)

-- l holds the trees of r that are less deep than d
abbrev pub HoldsBelow : List (List ℕ) → ℕ → List Tree → Type 0
HoldsBelow r d l = (t : Tree) → Contains l t ↔ (IsType r t × (depth t < d))

-- m holds the trees of r of depth d, in the order of their texts, where l numbers the trees
pub record IsLevelOf (r : List (List ℕ)) (d : ℕ) (l m : List Tree) : Type 0 where
  pub members : (t : Tree) → Contains m t ↔ (IsType r t × (depth t ≡ d))
  pub ordered : (i : ℕ) → i + 1 < length m → slice_cmp nat_cmp (text l (get_or m i nothing)) (text l (get_or m (i + 1) nothing)) ≡ Less

-- the canonical list of a table continues with its next level
abbrev pub NextLevel : Type 0
NextLevel =
    (r : List (List ℕ)) (d : ℕ) (l m : List Tree) → IsTable r → length (concat r) ≤ 4294967295
    → Canonical l → HoldsBelow r d l → IsLevelOf r d l m → Canonical (l ++ m) × HoldsBelow r (suc d) (l ++ m)

-- the trees of the first n records
first_trees : (r : List (List ℕ)) → IsTable r → (n : ℕ) → n ≤ length r → (s : List Tree) × (length s ≡ n) × ((i : ℕ) → i < n → IsTreeAt r i (get_or s i nothing))
first_trees r table zero le = ([], refl, λ i lt. absurd (omega arith))
first_trees r table (suc n) le =
    let before = first_trees r table n (omega arith) in
    let s : List Tree = before.0 in
    let many : length s ≡ n = before.1 in
    let t = tree_there r (λ i. i) n table.lower (omega arith) in
    let long : length (s ++ t.0 ∷ []) ≡ length s + 1 = length-append s (t.0 ∷ []) in (
      s ++ t.0 ∷ [],
      omega arith,
      λ i lt. elim (cases_lt i n) [
        | inl low ↦ let in_s : i < length s = omega arith in rw (get_or-append s (t.0 ∷ []) nothing i in_s) (before.2 i low)
        | inr high ↦
            let e : i ≡ length s = omega arith in
            let at : get_or (s ++ t.0 ∷ []) i nothing ≡ t.0 = ap (λ (k : ℕ). get_or (s ++ t.0 ∷ []) k nothing) e ∙ get_or-append_seam s t.0 [] nothing in
            let back : n ≡ i = omega arith in
            rw at (subst (λ (k : ℕ). IsTreeAt r k t.0) back t.1)
      ],
    )

pub trees_of_table : TreesOfTable
trees_of_table r table = first_trees r table (length r) (omega arith)

pub in_range : (r : List (List ℕ)) (i : ℕ) (t : Tree) → IsTreeAt r i t → i < length r
in_range r i (tree b bs) h = h.0

-- trees weigh as much as records have bytes, if each has as many bytes as its record
same_weight : (r : List (List ℕ)) (s : List Tree) → length s ≡ length r → ((i : ℕ) → i < length r → length (blank_of (get_or s i nothing)) ≡ length (get_or r i [])) → weight s ≡ length (concat r)
same_weight [] [] long each = weight-none
same_weight [] (t ∷ s) long each = absurd (omega arith)
same_weight (x ∷ r) [] long each = absurd (omega arith)
same_weight (x ∷ r) (t ∷ s) long each =
    let rest = same_weight r s (omega arith) (λ i lt. each (suc i) (omega arith)) in
    let head : length (blank_of t) ≡ length x = each 0 (omega arith) in
    rw (weight-cons t s, length-append x (concat r)) (omega arith)

long_as : (r : List (List ℕ)) (i : ℕ) (t : Tree) → IsTable r → IsTreeAt r i t → length (blank_of t) ≡ length (get_or r i [])
long_as r i (tree b bs) table h = sym (ap length h.1) ∙ blanked_len (get_or r i []) (table.good.checked i h.0)

pub table_weight : (r : List (List ℕ)) (table : IsTable r) → weight (trees_of_table r table).0 ≡ length (concat r)
table_weight r table =
    let s = trees_of_table r table in
    same_weight r s.0 s.1 (λ i lt. long_as r i (get_or s.0 i nothing) table (s.2 i lt))

-- the trees of a table are distinct
pub apart_of_table : (r : List (List ℕ)) (table : IsTable r) → AllPairs (λ t u. t ≢ u) (trees_of_table r table).0
apart_of_table r table = λ i j d lt j_in e.
    let s = trees_of_table r table in
    let many = s.1 in
    let i_s : i < length s.0 = omega arith in
    let a : get_or s.0 i d ≡ get_or s.0 i nothing = get_or_default s.0 i d nothing i_s in
    let b : get_or s.0 j d ≡ get_or s.0 j nothing = get_or_default s.0 j d nothing j_in in
    let at_i : IsTreeAt r i (get_or s.0 i nothing) = s.2 i (omega arith) in
    let at_j : IsTreeAt r j (get_or s.0 j nothing) = s.2 j (omega arith) in
    let there : IsTreeAt r j (get_or s.0 i nothing) = subst (IsTreeAt r j) (sym (sym a ∙ e ∙ b)) at_j in
    let clash : i ≡ j = table_is_set r i j (get_or s.0 i nothing) table at_i there in
    omega arith

pub table_weighs : TableWeighs
table_weighs r l table distinct within =
    let s = trees_of_table r table in
    let inside : (t : Tree) → Contains l t → Contains s.0 t = λ t h.
    let at = within t h in
    let lt : at.0 < length r = in_range r at.0 t at.1 in
    let e : get_or s.0 at.0 nothing ≡ t = one r at.0 (get_or s.0 at.0 nothing) t (s.2 at.0 lt) at.1 in
    let in_s : at.0 < length s.0 = rw s.1 lt in
    subst (Contains s.0) e (Contains-get_or s.0 at.0 nothing in_s) in
    let less = weight_grows l s.0 distinct inside in
    let w = table_weight r table in
    omega arith

pub table_weighs_all : TableWeighsAll
table_weighs_all r l table distinct same =
    let s = trees_of_table r table in
    let many = s.1 in
    let less = table_weighs r l table distinct (λ t. (same t).0) in
    let apart = apart_of_table r table in
    let inside : (t : Tree) → Contains s.0 t → Contains l t = λ t h.
    let i_s = h.1 in
    let e : get_or s.0 h.0 nothing ≡ t = get_or_default s.0 h.0 nothing t i_s ∙ h.2 in
    (same t).1 (h.0, subst (IsTreeAt r h.0) e (s.2 h.0 (omega arith))) in
    let more = weight_grows s.0 l apart inside in
    let w = table_weight r table in
    omega arith

-- each branch is less deep than its tree
less_deep : (d : ℕ) (bs : Branches) → depth_over bs ≤ d → AllByRecursion (λ u. depth u < d) (trees_in bs)
unfolding depth
less_deep d no_branch le = tt
less_deep d (simple n bs) le = less_deep d bs le
less_deep d (branch t bs) le = (omega arith, less_deep d bs (omega arith))

pub branches_less_deep : (t : Tree) → AllByRecursion (λ u. depth u < depth t) (trees_in (branches_of t))
unfolding depth
branches_less_deep (tree b bs) = less_deep (depth_over bs) bs (omega arith)

pub all_held : (r : List (List ℕ)) (d : ℕ) (l us : List Tree) → HoldsBelow r d l → AllByRecursion (IsType r) us → AllByRecursion (λ u. depth u < d) us → AllByRecursion (Contains l) us
all_held r d l [] below h lower = tt
all_held r d l (u ∷ us) below h lower = ((below u).1 (h.0, lower.0), all_held r d l us below h.1 lower.1)

pub next_level : NextLevel
next_level r d l m table light c below level =
    let has : (i : ℕ) → i < length m → IsType r (get_or m i nothing) × (depth (get_or m i nothing) ≡ d) = λ i lt. (level.members (get_or m i nothing)).0 (Contains-get_or m i nothing lt) in
    let shallow : (i : ℕ) → i < length l → depth (get_or l i nothing) < d = λ i lt. ((below (get_or l i nothing)).0 (Contains-get_or l i nothing lt)).1 in
    let is_level : IsLevel l d m = record {
      closed = λ i lt. let h = has i lt in standing_is_closed r h.0.0 (get_or m i nothing) table.good h.0.1;
      deep = λ i lt. (has i lt).1;
      held = λ i lt.
          let h = has i lt in
          let us : List Tree = trees_in (branches_of (get_or m i nothing)) in
          all_held r d l us below (branches_stand r h.0.0 (get_or m i nothing) h.0.1)
          (subst (λ (k : ℕ). AllByRecursion (λ u. depth u < k) us) h.1 (branches_less_deep (get_or m i nothing)));
      ordered = level.ordered;
    } in
    let members : HoldsBelow r (suc d) (l ++ m) = λ t. (
      λ h. elim (Contains-append_cases l m t h) [
        | inl x ↦ let w = (below t).0 x in let lt = w.1 in (w.0, omega arith)
        | inr x ↦ let w = (level.members t).0 x in let e = w.1 in (w.0, omega arith)
      ],
      λ h. let lt = h.1 in elim (cases_lt (depth t) d) [
        | inl low ↦ Contains-append_left l m t ((below t).1 (h.0, low))
        | inr high ↦ let e : depth t ≡ d = omega arith in Contains-append_right l m t ((level.members t).1 (h.0, e))
      ],
    ) in
    let distinct = distinct-ordered (l ++ m) (l ++ m) (level_ordered l m d c shallow is_level) in
    let bound = table_weighs r (l ++ m) table distinct (λ t h. ((members t).0 h).0) in
    (level_adds l m d c shallow is_level (omega arith), members)
