-- What changed between the definitions of two files.
use Rattle.std.specs.Prelude.{ℕ, List}
use Rattle.file_types.specs.Read.{IsAccepted}
use Rattle.type_changes.specs.Tells.{TellsChanges}

-- both files are accepted, and this text tells what changed between the definitions of their types
pub record AreChanges (first second text : List ℕ) : Type 0 where
  pub records : List (List ℕ)
  pub others : List (List ℕ)
  pub accepted : IsAccepted first records
  pub too : IsAccepted second others
  pub changes : TellsChanges records others text
