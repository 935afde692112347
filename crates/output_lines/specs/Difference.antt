-- The lines for the types that only one of two lists has.
use Rattle.std.specs.Prelude.{ℕ, ◌≡◌, ◌+◌, ◌⊎◌, List, [], ◌∷◌, ◌++◌, codes}
use Rattle.cv_leaves.specs.Place.{HasPlaces}
use Rattle.tpi_records.specs.Header.{first_index}
use Rattle.type_difference.specs.Difference.{IsLacked, IsOrigin}
use Rattle.type_difference.specs.declared.standing.Standing.{Standing}
use Rattle.type_difference.specs.declared.standing.Standing.TheVariants.{Shared, Again, Follows, Origin}
use Rattle.output_lines.specs.Types.{type_line}
use Rattle.run_options.specs.declared.scope.Scope.{Scope}
use Rattle.run_options.specs.declared.scope.Scope.TheVariants.{All, Origins}

-- this is the line of a record: a sign, and the line that `types` prints for it
abbrev pub IsSignedLine : List ℕ → ℕ → List ℕ → List ℕ → Type 0
IsSignedLine sign index bytes line =
    (places : List ℕ) × HasPlaces bytes places × (line ≡ sign ++ type_line index bytes places)

-- the text is the lines of the records whose positions have P, in order;
-- the first record is at this position
abbrev pub AreLinesWhere : (ℕ → Type 0) → List ℕ → ℕ → List (List ℕ) → List ℕ → Type 0
AreLinesWhere P sign position [] text = text ≡ []
AreLinesWhere P sign position (bytes ∷ others) text =
    (line : List ℕ) × (back : List ℕ)
    × AreLinesWhere P sign (position + 1) others back
    × (text ≡ line ++ back)
    × ((P position × IsSignedLine sign (first_index + position) bytes line)
    ⊎ ((P position → ⊥) × (line ≡ [])))

-- the record at this position is shown: it is the first of a type that the others lack;
-- or, where only origins are shown, the difference begins at it
abbrev pub IsShown : Scope → List (List ℕ) → List (List ℕ) → ℕ → Type 0
IsShown All records others i = IsLacked records others i
IsShown Origins records others i = IsOrigin records others i

-- a record with this standing is shown
abbrev pub ShowsStanding : Scope → Standing → Type 0
ShowsStanding scope Shared = ⊥
ShowsStanding scope Again = ⊥
ShowsStanding scope Origin = Unit {0}
ShowsStanding All Follows = Unit {0}
ShowsStanding Origins Follows = ⊥

-- the text has a line with `-` for each type that only the first list has,
-- and then a line with `+` for each type that only the second one has
pub record ShowsDifference (scope : Scope) (records others : List (List ℕ)) (text : List ℕ)
    : Type 0 where
  pub removed : List ℕ
  pub added : List ℕ
  pub removed_lines : AreLinesWhere (IsShown scope records others) (codes "- ") 0 records removed
  pub added_lines : AreLinesWhere (IsShown scope others records) (codes "+ ") 0 others added
  pub whole : text ≡ removed ++ added
