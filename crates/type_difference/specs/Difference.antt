-- The difference of two lists of types: the types that one list has and the other lacks.
-- Each record of a list is of one type, the tree at its position.
use Rattle.std.specs.Prelude.{ℕ, ◌≡◌, ◌<◌, ◌≤◌, List, length, get_or}
use Rattle.std.specs.List.{AllByRecursion}
use Rattle.type_trees.specs.Tree.{Tree, IsTreeAt, IsType, branches_of, trees_in}
use Rattle.type_trees.specs.Types.{AreTypes}
use Rattle.type_difference.specs.declared.standing.Standing.{Standing}
use Rattle.type_difference.specs.declared.standing.Standing.TheVariants.{Shared, Again, Follows, Origin}

-- the others lack the type of the record at position i, and no record before it is of this type
pub record IsLacked (records others : List (List ℕ)) (i : ℕ) : Type 0 where
  pub inside : i < length records
  pub lacked : (t : Tree) → IsTreeAt records i t → IsType others t → ⊥
  pub first : (k : ℕ) (t : Tree) → IsTreeAt records i t → IsTreeAt records k t → i ≤ k

-- the difference begins at position i: the others lack the type of this record,
-- but they have each type that it names
pub record IsOrigin (records others : List (List ℕ)) (i : ℕ) : Type 0 where
  pub lacked : IsLacked records others i
  pub named :
      (t : Tree) → IsTreeAt records i t → AllByRecursion (IsType others) (trees_in (branches_of t))

-- how the record at position i stands to the others: they have its type;
-- or they lack it, and an earlier record is of this type; or it is the first of its type,
-- and names a type that they lack; or it is the first, and names none that they lack
abbrev pub HasStanding : List (List ℕ) → List (List ℕ) → ℕ → Standing → Type 0
HasStanding records others i Shared = (t : Tree) → IsTreeAt records i t → IsType others t
HasStanding records others i Again =
    ((t : Tree) → IsTreeAt records i t → IsType others t → ⊥)
    × ((t : Tree) → IsTreeAt records i t → (k : ℕ) × (k < i) × IsTreeAt records k t)
HasStanding records others i Follows = IsLacked records others i × (IsOrigin records others i → ⊥)
HasStanding records others i Origin = IsOrigin records others i

-- each record has a standing
pub record HaveStandings (records others : List (List ℕ)) (standings : List Standing) : Type 0 where
  pub many : length standings ≡ length records
  pub each : (i : ℕ) → i < length records → HasStanding records others i (get_or standings i Shared)

-- if a list has a type that another one lacks, then the difference begins at one of its records:
-- where it begins at none, the other has all types of the list
abbrev pub DifferenceBegins : Type 0
DifferenceBegins =
    (records others : List (List ℕ))
    → AreTypes records
    → AreTypes others
    → ((i : ℕ) → IsOrigin records others i → ⊥)
    → (t : Tree) → IsType records t → IsType others t
