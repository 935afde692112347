-- The nodes that lead into a cycle.
use Rattle.std.specs.Prelude.{ℕ, ◌<◌, List, length}
use Rattle.std.specs.List.{AllPairs, Contains}
use Rattle.topological_order.specs.Graph.{Names}
use Rattle.topological_order.specs.declared.fault.OrderFault.{OrderFault}
use Rattle.topological_order.specs.declared.fault.OrderFault.TheVariants as fault

-- each of these nodes names one of them
abbrev pub NameOneAnother : List (List ℕ) → List ℕ → Type 0
NameOneAnother graph nodes =
    (i : ℕ) → Contains nodes i → (n : ℕ) × Names graph i n × Contains nodes n

-- these nodes, in rising order, are the largest set of nodes in which each names one of the set;
-- there is at least one, and all other nodes name no node of the set
-- and have a rank among themselves
pub record IsCycleSet (graph : List (List ℕ)) (nodes : List ℕ) : Type 0 where
  pub some : 0 < length nodes
  pub rising : AllPairs (λ i n. i < n) nodes
  pub names : NameOneAnother graph nodes
  pub largest :
      (others : List ℕ) → NameOneAnother graph others
      → (i : ℕ) → Contains others i
      → Contains nodes i
  pub beside :
      (rank : ℕ → ℕ)
      × ((i : ℕ) → i < length graph → (Contains nodes i → ⊥) → (n : ℕ) → Names graph i n
      → (Contains nodes n → ⊥) × (rank n < rank i))

-- the fault names the nodes of this graph that lead into a cycle, or it is out of memory
abbrev pub IsOrderFault : {A : Type 0} → List (List ℕ) → OrderFault A → Type 0
IsOrderFault graph (fault.Cycle nodes) = IsCycleSet graph nodes.items
IsOrderFault graph fault.Memory = Unit {0}
