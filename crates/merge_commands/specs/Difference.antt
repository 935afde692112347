-- What the command `diff` writes.
use Rattle.std.specs.Prelude.{ℕ, ◌≡◌, ◌↔◌, Bool, List, [], ◌∷◌, Option, Result, IsTrue}
use Rattle.std.specs.Io.KnownBytes.{Appends}
use Rattle.byte_io.specs.Inputs.{Give}
use Rattle.byte_io.specs.declared.inputs.InputFault.{InputFault}
use Rattle.type_trees.specs.Tree.{Tree, IsType}
use Rattle.type_trees.specs.Types.{AreTypes}
use Rattle.msf_streams.specs.Put.{AppendsPart}
use Rattle.pdb_info.specs.Settings.{SettingsView, AreSettings, record_limit}
use Rattle.pdb_merge.specs.Merged.{Merged}
use Rattle.file_types.specs.Read.{IsAccepted}
use Rattle.pdb_merge.specs.Union.{HasType, SameTypes, Within}
use Rattle.output_lines.specs.Difference.{ShowsDifference}
use Rattle.run_options.specs.declared.scope.Scope.{Scope}

-- what holds of the text for two files: it is empty exactly if they have the same types.
-- If each file can be merged alone, it is empty exactly if both merges, with the same settings,
-- have the same bytes
pub record TellsApart (one other text : List ℕ) : Type 0 where
  pub types : (text ≡ []) ↔ SameTypes (one ∷ []) (other ∷ [])
  pub merges : (settings : SettingsView) (merged other_merged : List ℕ) → AreSettings settings
      → Within (HasType (one ∷ [])) (record_limit settings)
      → Within (HasType (other ∷ [])) (record_limit settings)
      → Merged (HasType (one ∷ [])) settings merged
      → Merged (HasType (other ∷ [])) settings other_merged → (text ≡ []) ↔ (merged ≡ other_merged)

-- `diff` shows this text for two inputs: it is the difference of two lists of types
pub record ShowsInputs (scope : Scope) (known : Option (List (Result (List ℕ) InputFault)))
    (text : List ℕ) : Type 0 where
  pub records : List (List ℕ)
  pub others : List (List ℕ)
  pub are_types : AreTypes records
  pub others_are_types : AreTypes others
  pub shows : ShowsDifference scope records others text
  -- it is empty exactly if both lists have the same types
  pub empty : (text ≡ []) ↔ ((t : Tree) → IsType records t ↔ IsType others t)
  -- where the bytes of the inputs are known, they are accepted with these types
  pub accepted : (one other : List ℕ) → Give known (one ∷ other ∷ []) → IsAccepted one records
  pub other_accepted : (one other : List ℕ) → Give known (one ∷ other ∷ [])
      → IsAccepted other others
  pub apart : (one other : List ℕ) → Give known (one ∷ other ∷ []) → TellsApart one other text

-- a sink took the text for two inputs, and `same` says whether it is empty
pub record Compared (scope : Scope) (known : Option (List (Result (List ℕ) InputFault)))
    (old new : Option (List ℕ)) (same : Bool) : Type 0 where
  pub text : List ℕ
  pub shows : ShowsInputs scope known text
  pub taken : Appends old new text
  pub empty : IsTrue same ↔ (text ≡ [])

-- a sink took the first bytes of the text for two inputs, but not all of them
abbrev pub ComparedPart : Scope → Option (List (Result (List ℕ) InputFault)) → Option (List ℕ)
    → Option (List ℕ) → Type 0
ComparedPart scope known old new =
    (text : List ℕ) × ShowsInputs scope known text × AppendsPart old new text
