-- Laws of topological orders and of cycles.
use Rattle.std.specs.Prelude.{ℕ, ◌≡◌, List}
use Rattle.topological_order.specs.Graph.{IsRank}
use Rattle.topological_order.specs.Order.{IsOrder}
use Rattle.topological_order.specs.Cycle.{IsCycleSet}

-- a graph that has a topological order has a rank
abbrev pub OrdersRank : Type 0
OrdersRank =
    (graph : List (List ℕ)) (order : List ℕ)
    → IsOrder graph order
    → (rank : ℕ → ℕ) × IsRank graph rank

-- a graph has at most one set of nodes that lead into a cycle
abbrev pub OneCycleSet : Type 0
OneCycleSet =
    (graph : List (List ℕ)) (nodes others : List ℕ)
    → IsCycleSet graph nodes
    → IsCycleSet graph others
    → nodes ≡ others

-- a graph with nodes that lead into a cycle has no rank
abbrev pub CyclesHaveNoRank : Type 0
CyclesHaveNoRank =
    (graph : List (List ℕ)) (nodes : List ℕ) (rank : ℕ → ℕ)
    → IsCycleSet graph nodes
    → IsRank graph rank
    → ⊥
