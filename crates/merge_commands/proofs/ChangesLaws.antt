-- What changed between the definitions of two inputs.
use Rattle.std.proofs.Common.{ℕ, List, [], ◌∷◌, get_or}
use Rattle.std.specs.Prelude.{Option, Result}
use Rattle.byte_io.specs.Inputs.{Give}
use Rattle.byte_io.specs.declared.inputs.InputFault.{InputFault}
use Rattle.type_trees.specs.Types.{AreTypes}
use Rattle.file_types.specs.Read.{IsAccepted}
use Rattle.type_changes.specs.Tells.{TellsChanges}
use Rattle.merge_commands.specs.Changes.{ShowsChanges}

pub shows_changes : (known : Option (List (Result (List ℕ) InputFault))) (records others : List (List ℕ)) (text : List ℕ) → AreTypes records → AreTypes others
    → ((files : List (List ℕ)) → Give known files → IsAccepted (get_or files 0 []) records) → ((files : List (List ℕ)) → Give known files → IsAccepted (get_or files 1 []) others)
    → TellsChanges records others text → ShowsChanges known text
shows_changes known records others text types other_types accepted other_accepted changes = record {
  records = records;
  others = others;
  are_types = types;
  others_are_types = other_types;
  changes = changes;
  accepted = λ one other gives. accepted (one ∷ other ∷ []) gives;
  other_accepted = λ one other gives. other_accepted (one ∷ other ∷ []) gives;
}
