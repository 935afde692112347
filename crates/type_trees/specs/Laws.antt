-- Laws of the types of records, and of canonical lists.
use Rattle.std.specs.Prelude.{ℕ, ◌≡◌, ◌≢◌, ◌<◌, ◌≤◌, ◌↔◌, List, length, get_or}
use Rattle.std.specs.List.{AllByRecursion, AllPairs, Contains, concat}
use Rattle.type_trees.specs.Tree.{Tree, nothing, branches_of, trees_in, IsClosed, IsTreeAt, IsType, IsRanked}
use Rattle.type_trees.specs.Canon.{text, texts, weight, HoldsBranches, Canonical}
use Rattle.type_trees.specs.Table.{AreGood}
use Rattle.type_trees.specs.Types.{AreTypes}

-- there is exactly one tree at each position of records that make types, and it is closed
abbrev pub OneTreeEach : Type 0
OneTreeEach =
    (records : List (List ℕ)) → AreTypes records → (i : ℕ) → i < length records
    → (t : Tree) × IsClosed t × IsTreeAt records i t × ((u : Tree) → IsTreeAt records i u → t ≡ u)

-- if a branch of a type of some records is a tree, it is a type of these records
abbrev pub BranchesAreTypes : Type 0
BranchesAreTypes =
    (records : List (List ℕ)) (t : Tree)
    → IsType records t
    → AllByRecursion (IsType records) (trees_in (branches_of t))

-- two closed trees with equal texts are equal, where l holds their branches
abbrev pub TextsDiffer : Type 0
TextsDiffer =
    (l : List Tree) (t u : Tree)
    → length l ≤ 4294963200
    → IsClosed t
    → IsClosed u
    → HoldsBranches l t
    → HoldsBranches l u
    → text l t ≡ text l u → t ≡ u

-- two canonical lists with the same members are equal
abbrev pub OneCanonicalList : Type 0
OneCanonicalList =
    (l m : List Tree)
    → Canonical l
    → Canonical m
    → ((t : Tree) → Contains l t ↔ Contains m t)
    → l ≡ m

-- the texts of l are good records, each names earlier ones, each tree of l is at its position,
-- and no other tree is there
pub record IsReadBack (l : List Tree) : Type 0 where
  pub good : AreGood (texts l)
  pub lower : IsRanked (texts l) (λ i. i)
  pub stand : (i : ℕ) → i < length l → IsTreeAt (texts l) i (get_or l i nothing)
  pub alone : (i : ℕ) (u : Tree) → IsTreeAt (texts l) i u → u ≡ get_or l i nothing

-- a canonical list reads back from its texts
abbrev pub CanonicalReadsBack : Type 0
CanonicalReadsBack = (l : List Tree) → Canonical l → IsReadBack l

-- the weight of a canonical list is the number of bytes of its texts
abbrev pub WeightOfTexts : Type 0
WeightOfTexts = (l : List Tree) → Canonical l → length (concat (texts l)) ≡ weight l

-- a list that contains all trees of another one weighs at least as much,
-- if the other one has each tree once
abbrev pub WeightGrows : Type 0
WeightGrows =
    (l m : List Tree)
    → AllPairs (λ t u. t ≢ u) l
    → ((t : Tree) → Contains l t → Contains m t)
    → weight l ≤ weight m
