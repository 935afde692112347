-- Closed trees, and their positions in a list of records.
-- The record at position i has the type index 0x1000 + i.
use Rattle.std.specs.Prelude.{ℕ, suc, ◌≡◌, ◌-◌, ◌<◌, ◌≤◌, ◌⊎◌, Bool, true, false, ◌&&◌, nat_eq, List, [], ◌∷◌, length, get_or}
use Rattle.std.specs.List.{AllByRecursion}
use Rattle.std.specs.Str.{bytes_eq}
use Rattle.tpi_records.specs.Records.{IsRecord}
use Rattle.cv_leaves.specs.Checks.{places_of}
use Rattle.cv_leaves.specs.References.{references, blanked}
use Rattle.cv_leaves.specs.Place.{IsChecked}
use Rattle.tpi_records.specs.Header.{first_index}

mutual
  -- a type: a blank record, and a branch for each of its places
  pub data Tree : Type 0 where
    tree : List ℕ → Branches → Tree

  -- branches in the order of places, each a simple number or a tree
  pub data Branches : Type 0 where
    no_branch : Branches
    simple : ℕ → Branches → Branches
    branch : Tree → Branches → Branches

-- a default, for positions that have no tree
abbrev pub nothing : Tree
nothing = tree [] no_branch

-- the blank record of a tree
abbrev pub blank_of : Tree → List ℕ
blank_of (tree b bs) = b

-- the branches of a tree
abbrev pub branches_of : Tree → Branches
branches_of (tree b bs) = bs

-- how many branches there are
abbrev pub count : Branches → ℕ
count no_branch = 0
count (simple n bs) = suc (count bs)
count (branch t bs) = suc (count bs)

-- the branches that are trees
abbrev pub trees_in : Branches → List Tree
trees_in no_branch = []
trees_in (simple n bs) = trees_in bs
trees_in (branch t bs) = t ∷ trees_in bs

abbrev mutual
  -- the tree is closed: its blank is a record with its framing and its places, with zeros there,
  -- and it has a branch for each place, a number below 0x1000 or a closed tree
  pub IsClosed : Tree → Type 0
  IsClosed (tree b bs) =
      IsRecord b × IsChecked b × (blanked b ≡ b) × (length (places_of b) ≡ count bs) × AreClosed bs

  -- so are the trees among the branches, and the numbers are simple
  pub AreClosed : Branches → Type 0
  AreClosed no_branch = Unit {0}
  AreClosed (simple n bs) = (n < first_index) × AreClosed bs
  AreClosed (branch t bs) = IsClosed t × AreClosed bs

abbrev mutual
  -- this tree is at position i of the records: it has the record with zeros at its places,
  -- and its branches
  pub IsTreeAt : List (List ℕ) → ℕ → Tree → Type 0
  IsTreeAt records i (tree b bs) =
      (i < length records)
      × (blanked (get_or records i []) ≡ b)
      × AreBranches records (references (get_or records i [])) bs

  -- each reference below 0x1000 is a simple branch,
  -- and every other one names a position at which its branch is
  pub AreBranches : List (List ℕ) → List ℕ → Branches → Type 0
  AreBranches records ns no_branch = ns ≡ []
  AreBranches records ns (simple m bs) =
      (n : ℕ) × (rest : List ℕ)
      × (ns ≡ n ∷ rest)
      × (n < first_index)
      × (n ≡ m)
      × AreBranches records rest bs
  AreBranches records ns (branch t bs) =
      (n : ℕ) × (rest : List ℕ)
      × (ns ≡ n ∷ rest)
      × (first_index ≤ n)
      × IsTreeAt records (n - first_index) t
      × AreBranches records rest bs

-- the tree is one of the types of these records: it is at one of their positions
abbrev pub IsType : List (List ℕ) → Tree → Type 0
IsType records t = (i : ℕ) × IsTreeAt records i t

-- the reference is simple, or names a record of lower rank than the one at i
abbrev pub NamesLower : List (List ℕ) → (ℕ → ℕ) → ℕ → ℕ → Type 0
NamesLower records rank i n =
    (n < first_index) ⊎ ((n - first_index < length records) × (rank (n - first_index) < rank i))

-- each record has a higher rank than those that it names
abbrev pub IsRanked : List (List ℕ) → (ℕ → ℕ) → Type 0
IsRanked records rank =
    (i : ℕ) → i < length records
    → AllByRecursion (NamesLower records rank i) (references (get_or records i []))

unfoldable mutual
  -- whether two trees are equal
  pub same_tree : Tree → Tree → Bool
  same_tree (tree b bs) (tree c cs) = bytes_eq b c && same_branches bs cs

  -- whether their branches are
  pub same_branches : Branches → Branches → Bool
  same_branches no_branch no_branch = true
  same_branches (simple n bs) (simple m cs) = nat_eq n m && same_branches bs cs
  same_branches (branch t bs) (branch u cs) = same_tree t u && same_branches bs cs
  same_branches bs cs = false
