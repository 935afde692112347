-- How far a walk along a graph has come.
use Rattle.std.specs.Prelude.{ℕ, ◌≡◌, ◌≢◌, ◌+◌, ◌<◌, ◌≤◌, ◌⊎◌, List, [], ◌∷◌, length, take, get_or}
use Rattle.std.specs.List.{All, AllPairs, Contains}
use Rattle.topological_order.specs.Graph.{Names}
use Rattle.topological_order.specs.Order.{ComesAfter}
use Rattle.topological_order.specs.declared.walk.Mark.{Mark}
use Rattle.topological_order.specs.declared.walk.Mark.TheVariants.{New, Met, Placed}

-- the mark of a node
abbrev pub mark_at : List Mark → ℕ → Mark
mark_at marks i = get_or marks i New

-- the node is placed
abbrev pub IsPlaced : List Mark → ℕ → Type 0
IsPlaced marks i = mark_at marks i ≡ Placed

-- the first n nodes of a row are placed
abbrev pub IsPassed : List Mark → List ℕ → ℕ → Type 0
IsPassed marks row n = (n ≤ length row) × All (IsPlaced marks) (take n row)

-- the node names one that was met and isn't on the path
abbrev pub NamesCaught : List (List ℕ) → List Mark → List ℕ → ℕ → Type 0
NamesCaught graph marks path i =
    (n : ℕ) × Names graph i n × (mark_at marks n ≡ Met) × (Contains path n → ⊥)

-- a walk along a graph: for each node how many of the nodes that it names are passed, the marks,
-- the path from where the walk began, and the order of the nodes that are placed
pub record IsWalk (graph : List (List ℕ)) (passed : List ℕ) (marks : List Mark)
    (path order : List ℕ) : Type 0 where
  pub passed_many : length passed ≡ length graph
  pub marks_many : length marks ≡ length graph
  pub passes : (i : ℕ) → IsPassed marks (get_or graph i []) (get_or passed i 0)
  pub whole : (i : ℕ) → IsPlaced marks i → Contains order i
  pub placed : All (IsPlaced marks) order
  pub once : AllPairs (λ i j. i ≢ j) order
  pub after : ComesAfter graph order
  pub met : All (λ i. mark_at marks i ≡ Met) path
  pub apart : AllPairs (λ i j. i ≢ j) path
  pub linked : (k : ℕ) → k + 1 < length path → Names graph (get_or path k 0) (get_or path (k + 1) 0)
  pub caught : (i : ℕ) → mark_at marks i ≡ Met → Contains path i ⊎ NamesCaught graph marks path i

-- these are the nodes that were met and not placed, in rising order
pub record AreCaught (marks : List Mark) (nodes : List ℕ) : Type 0 where
  pub rising : AllPairs (λ i n. i < n) nodes
  pub met : All (λ n. mark_at marks n ≡ Met) nodes
  pub whole : (i : ℕ) → mark_at marks i ≡ Met → Contains nodes i

-- a node that isn't new does not become new
abbrev pub StayMarked : List Mark → List Mark → Type 0
StayMarked before after = (i : ℕ) → mark_at before i ≢ New → mark_at after i ≢ New

-- 1 for a new node, otherwise 0
unfoldable pub new_one : Mark → ℕ
new_one New = 1
new_one Met = 0
new_one Placed = 0

-- how many nodes are new
unfoldable pub new_count : List Mark → ℕ
new_count [] = 0
new_count (m ∷ ms) = new_one m + new_count ms
