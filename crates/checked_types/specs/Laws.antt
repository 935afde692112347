-- Laws of the types of records that lead into a cycle.
use Rattle.std.specs.Prelude.{ℕ, ◌≡◌, List}
use Rattle.type_trees.specs.Tree.{IsRanked}
use Rattle.checked_types.specs.Check.{IsCycle}

-- records have at most one list of those that lead into a cycle
abbrev pub OneCycle : Type 0
OneCycle =
    (records : List (List ℕ)) (indices others : List ℕ)
    → IsCycle records indices
    → IsCycle records others
    → indices ≡ others

-- if some records lead into a cycle, the records have no rank
abbrev pub CyclicTypesHaveNoRank : Type 0
CyclicTypesHaveNoRank =
    (records : List (List ℕ)) (indices : List ℕ) (rank : ℕ → ℕ)
    → IsCycle records indices
    → IsRanked records rank
    → ⊥
