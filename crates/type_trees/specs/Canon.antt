-- Canonical lists of trees. Such a list numbers its trees by their positions.
use Rattle.std.specs.Prelude.{ℕ, ◌≡◌, ◌≢◌, ◌+◌, ◌<◌, ◌≤◌, List, [], ◌∷◌, length, get_or, map}
use Rattle.std.specs.declared.cmp.Ordering.{Ordering}
use Rattle.std.specs.declared.cmp.Ordering.TheVariants.{Less}
use Rattle.std.specs.Ordering.{nat_cmp, on, then_cmp}
use Rattle.std.specs.Cmp.Lexicographic.{slice_cmp}
use Rattle.std.specs.List.{AllByRecursion, AllPairs, Contains, position_or_len, sum_by}
use Rattle.cv_leaves.specs.References.{filled}
use Rattle.type_trees.specs.Depth.{depth}
use Rattle.type_trees.specs.Tree.{Tree, Branches, no_branch, simple, branch, nothing, blank_of, branches_of, trees_in, IsClosed, same_tree}
use Rattle.tpi_records.specs.Header.{first_index}

-- the position of t in l, or the length of l where t isn't there
unfoldable pub position_in : List Tree → Tree → ℕ
position_in l t = position_or_len (same_tree t) l

-- the type indices of branches: a simple branch is a type index itself,
-- and a tree has the type index of its position in l
abbrev pub numbers : List Tree → Branches → List ℕ
numbers l no_branch = []
numbers l (simple n bs) = n ∷ numbers l bs
numbers l (branch t bs) = (first_index + position_in l t) ∷ numbers l bs

-- the record of t, where l numbers the trees
unfoldable pub text : List Tree → Tree → List ℕ
text l t = filled (blank_of t) (numbers l (branches_of t))

-- how many bytes the records of the trees have together
unfoldable pub weight : List Tree → ℕ
weight l = sum_by (λ t. length (blank_of t)) l

-- the order of trees: by depth, and at one depth by text, where l numbers the trees
abbrev pub canonical_order : List Tree → Tree → Tree → Ordering
canonical_order l = then_cmp (on depth nat_cmp) (on (text l) (slice_cmp nat_cmp))

-- l is canonical: its trees are closed and distinct, each comes after those that it names,
-- they are in canonical order, and they have fewer than 2^32 bytes together
pub record Canonical (l : List Tree) : Type 0 where
  pub closed : (i : ℕ) → i < length l → IsClosed (get_or l i nothing)
  pub distinct : AllPairs (λ t u. t ≢ u) l
  pub light : weight l ≤ 4294967295
  pub earlier :
      (i : ℕ) → i < length l
      → AllByRecursion (λ u. position_in l u < i) (trees_in (branches_of (get_or l i nothing)))
  pub ordered :
      (i : ℕ) → i + 1 < length l
      → canonical_order l (get_or l i nothing) (get_or l (i + 1) nothing) ≡ Less

-- the records of the trees of l, in order
abbrev pub texts : List Tree → List (List ℕ)
texts l = map (text l) l

-- l holds each branch of t that is a tree
abbrev pub HoldsBranches : List Tree → Tree → Type 0
HoldsBranches l t = AllByRecursion (Contains l) (trees_in (branches_of t))
