-- Marks on the numbers of types. Two records are of the same type if their numbers are equal.
use Rattle.std.specs.Prelude.{ℕ, Bool, true, false, ◌≡◌, ◌-◌, ◌<◌, ◌⊎◌, ◌↔◌, List, length, get_or}
use Rattle.std.specs.List.{AllByRecursion, Contains}
use Rattle.cv_leaves.specs.References.{references}
use Rattle.type_trees.specs.Tree.{Tree, IsTreeAt, IsType}
use Rattle.type_difference.specs.declared.standing.Standing.{Standing}
use Rattle.type_difference.specs.declared.standing.Standing.TheVariants.{Shared, Again, Follows, Origin}
use Rattle.tpi_records.specs.Header.{first_index}

-- each record has a number,
-- and two records have the same number exactly if they are of the same type
pub record TellApart (records : List (List ℕ)) (numbers : List ℕ) : Type 0 where
  pub many : length numbers ≡ length records
  pub equal :
      (i k : ℕ) (t : Tree)
      → IsTreeAt records i t
      → IsTreeAt records k t
      → get_or numbers i 0 ≡ get_or numbers k 0
  pub same :
      (i k : ℕ) (t : Tree)
      → i < length records
      → get_or numbers i 0 ≡ get_or numbers k 0
      → IsTreeAt records k t
      → IsTreeAt records i t

-- the number is marked
abbrev pub IsMarked : List Bool → ℕ → Type 0
IsMarked marks n = get_or marks n false ≡ true

-- just these numbers are marked
abbrev pub AreMarks : List ℕ → List Bool → Type 0
AreMarks numbers marks = (n : ℕ) → IsMarked marks n ↔ Contains numbers n

-- the number of a record is marked exactly if the others have its type
abbrev pub MarkTypesOf : List (List ℕ) → List (List ℕ) → List ℕ → List Bool → Type 0
MarkTypesOf others records numbers marks =
    (i : ℕ) (t : Tree)
    → IsTreeAt records i t
    → IsMarked marks (get_or numbers i 0) ↔ IsType others t

-- the reference is simple, or names a record whose number is marked
abbrev pub NamesMarked : List ℕ → List Bool → ℕ → Type 0
NamesMarked numbers marks n =
    (n < first_index) ⊎ IsMarked marks (get_or numbers (n - first_index) 0)

-- the standing of a record with this number, where the numbers of the others' types are marked,
-- and those of earlier records are seen
abbrev pub IsStandingBy : List ℕ → List Bool → List Bool → List ℕ → ℕ → Standing → Type 0
IsStandingBy numbers marks seen bytes n Shared = IsMarked marks n
IsStandingBy numbers marks seen bytes n Again = (IsMarked marks n → ⊥) × IsMarked seen n
IsStandingBy numbers marks seen bytes n Follows =
    (IsMarked marks n → ⊥)
    × (IsMarked seen n → ⊥)
    × (AllByRecursion (NamesMarked numbers marks) (references bytes) → ⊥)
IsStandingBy numbers marks seen bytes n Origin =
    (IsMarked marks n → ⊥)
    × (IsMarked seen n → ⊥)
    × AllByRecursion (NamesMarked numbers marks) (references bytes)
