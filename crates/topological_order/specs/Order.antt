-- Topological orders.
use Rattle.std.specs.Prelude.{ℕ, ◌≢◌, ◌<◌, List, length, take, get_or}
use Rattle.std.specs.List.{All, AllPairs, Contains}
use Rattle.topological_order.specs.Graph.{Names}

-- each node comes after all that it names
abbrev pub ComesAfter : List (List ℕ) → List ℕ → Type 0
ComesAfter graph order =
    (k : ℕ) → k < length order
    → (n : ℕ) → Names graph (get_or order k 0) n
    → Contains (take k order) n

-- the order has each node of the graph once, after all that it names
pub record IsOrder (graph : List (List ℕ)) (order : List ℕ) : Type 0 where
  pub inside : All (λ i. i < length graph) order
  pub whole : (i : ℕ) → i < length graph → Contains order i
  pub once : AllPairs (λ i j. i ≢ j) order
  pub after : ComesAfter graph order
