-- What the command `diff --members` writes.
use Rattle.std.specs.Prelude.{ℕ, ◌≡◌, ◌↔◌, Bool, List, [], ◌∷◌, Option, Result, IsTrue}
use Rattle.std.specs.Io.KnownBytes.{Appends}
use Rattle.byte_io.specs.Inputs.{Give}
use Rattle.byte_io.specs.declared.inputs.InputFault.{InputFault}
use Rattle.type_trees.specs.Types.{AreTypes}
use Rattle.msf_streams.specs.Put.{AppendsPart}
use Rattle.file_types.specs.Read.{IsAccepted}
use Rattle.type_changes.specs.Tells.{TellsChanges}

-- `diff --members` shows this text for two inputs: what changed between the definitions of their
-- types
pub record ShowsChanges (known : Option (List (Result (List ℕ) InputFault))) (text : List ℕ)
    : Type 0 where
  pub records : List (List ℕ)
  pub others : List (List ℕ)
  pub are_types : AreTypes records
  pub others_are_types : AreTypes others
  pub changes : TellsChanges records others text
  -- where the bytes of the inputs are known, they are accepted with these types
  pub accepted : (one other : List ℕ) → Give known (one ∷ other ∷ []) → IsAccepted one records
  pub other_accepted : (one other : List ℕ) → Give known (one ∷ other ∷ [])
      → IsAccepted other others

-- a sink took the text for two inputs, and `same` says whether it is empty
pub record ShowedChanges (known : Option (List (Result (List ℕ) InputFault)))
    (old new : Option (List ℕ)) (same : Bool) : Type 0 where
  pub text : List ℕ
  pub shows : ShowsChanges known text
  pub taken : Appends old new text
  pub empty : IsTrue same ↔ (text ≡ [])

-- a sink took the first bytes of the text for two inputs, but not all of them
abbrev pub ShowedChangesPart : Option (List (Result (List ℕ) InputFault)) → Option (List ℕ)
    → Option (List ℕ) → Type 0
ShowedChangesPart known old new =
    (text : List ℕ) × ShowsChanges known text × AppendsPart old new text
