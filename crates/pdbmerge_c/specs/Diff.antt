-- The types that only one of two files has.
use Rattle.std.specs.Prelude.{ℕ, ◌≡◌, ◌↔◌, ◌+◌, List, [], ◌∷◌, ◌++◌}
use Rattle.tpi_records.specs.Header.{first_index}
use Rattle.type_trees.specs.Tree.{Tree, IsType}
use Rattle.type_difference.specs.Difference.{HaveStandings}
use Rattle.type_difference.specs.declared.standing.Standing.{Standing}
use Rattle.type_difference.specs.declared.standing.Standing.TheVariants.{Shared, Again, Follows, Origin}
use Rattle.file_types.specs.Read.{IsAccepted}
use Rattle.pdbmerge_c.specs.declared.diff.OneSided.{OneSided}

-- the row of the record at this position of a file, by how it stands to the other file:
-- there is one where it is the first record of a type that the other lacks
abbrev pub row_of : ℕ → ℕ → Standing → List OneSided
row_of input position Shared = []
row_of input position Again = []
row_of input position Follows =
    record { input = input; index = first_index + position; origin = 0 } ∷ []
row_of input position Origin =
    record { input = input; index = first_index + position; origin = 1 } ∷ []

-- the rows of records with these standings; the first record is at this position
abbrev pub rows_from : ℕ → ℕ → List Standing → List OneSided
rows_from input position [] = []
rows_from input position (standing ∷ others) =
    row_of input position standing ++ rows_from input (position + 1) others

-- these are the rows of two lists of types: by how the records of each stand to the other
pub record TellApart (records others : List (List ℕ)) (rows : List OneSided) : Type 0 where
  pub first : List Standing
  pub second : List Standing
  pub firsts : HaveStandings records others first
  pub seconds : HaveStandings others records second
  pub are : rows ≡ rows_from 0 0 first ++ rows_from 1 0 second

-- both files are accepted, and these are the rows of their types;
-- there are none exactly where both have the same types
pub record AreDifferences (first second : List ℕ) (rows : List OneSided) : Type 0 where
  pub records : List (List ℕ)
  pub others : List (List ℕ)
  pub accepted : IsAccepted first records
  pub too : IsAccepted second others
  pub apart : TellApart records others rows
  pub empty : (rows ≡ []) ↔ ((t : Tree) → IsType records t ↔ IsType others t)
