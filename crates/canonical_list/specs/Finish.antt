-- How a table's canonical list is made, level by level.
use Rattle.std.specs.Prelude.{ℕ, ◌≡◌, ◌≢◌, ◌+◌, ◌<◌, ◌↔◌, List, [], length, get_or}
use Rattle.std.specs.List.{All, AllPairs, Contains}
use Rattle.tpi_records.specs.Records.{IsRecord}
use Rattle.cv_leaves.specs.Place.{IsChecked}
use Rattle.cv_leaves.specs.References.{references}
use Rattle.cv_leaves.specs.Named.{named_places}
use Rattle.type_trees.specs.Tree.{Tree}
use Rattle.type_trees.specs.Canon.{texts, Canonical}
use Rattle.type_trees.specs.Table.{IsTable, AreNumbered}
use Rattle.canonical_list.specs.Rows.{row}

-- ps are the positions that have this depth, each once and in any order
pub record AtLevel (depths : List ℕ) (d : ℕ) (ps : List ℕ) : Type 0 where
  pub within :
      (k : ℕ) → k < length ps
      → (get_or ps k 0 < length depths) × (get_or depths (get_or ps k 0) 0 ≡ d)
  pub all : (j : ℕ) → j < length depths → get_or depths j 0 ≡ d → Contains ps j
  pub distinct : AllPairs (λ i j. i ≢ j) ps

-- the record at k can become its row: it is checked, list k has the places at which it names
-- others, and all that it names has a number
pub record CanRenumber (r places : List (List ℕ)) (numbers : List ℕ) (k : ℕ) : Type 0 where
  pub framed : IsRecord (get_or r k [])
  pub checked : IsChecked (get_or r k [])
  pub listed : get_or places k [] ≡ named_places (get_or r k [])
  pub named : AreNumbered numbers (references (get_or r k []))

-- the records at the positions ps became their rows, which are as long, and all others stay
pub record RowsMade (before after : List (List ℕ)) (f : ℕ → ℕ) (ps : List ℕ) : Type 0 where
  pub rows : All (λ p. get_or after p [] ≡ row before f p) ps
  pub others : (k : ℕ) → ¬ Contains ps k → get_or after k [] ≡ get_or before k []
  pub many : length after ≡ length before
  pub long : (k : ℕ) → length (get_or after k []) ≡ length (get_or before k [])

-- the records are the canonical list of the trees for which Has holds
abbrev pub IsCanonOf : List (List ℕ) → (Tree → Type 0) → Type 0
IsCanonOf records Has =
    (l : List Tree) × Canonical l × (records ≡ texts l) × ((t : Tree) → Contains l t ↔ Has t)

-- the records are a canonical list of trees, and they are a table
pub record IsCanon (records : List (List ℕ)) : Type 0 where
  pub trees : List Tree
  pub canonical : Canonical trees
  pub are : records ≡ texts trees
  pub table : IsTable records

-- if the positions ps are distinct, the first `end` of them have the numbers from `first` on;
-- the numbers of all other positions stay as they were
pub record Numbered (ps : List ℕ) (first end : ℕ) (before after : List ℕ) : Type 0 where
  pub put :
      AllPairs (λ i j. i ≢ j) ps → (k : ℕ) → k < end → get_or after (get_or ps k 0) 0 ≡ first + k
  pub kept :
      (i : ℕ) → ((k : ℕ) → k < end → get_or ps k 0 ≢ i) → get_or after i 0 ≡ get_or before i 0
