-- The members of the types of one input: what their text tells.
use Rattle.std.proofs.Common.{◌≡◌, ℕ, List, [], ◌∷◌, get_or, map}
use Rattle.std.specs.Prelude.{Option, Result}
use Rattle.std.specs.List.{concat}
use Rattle.byte_io.specs.Inputs.{Give}
use Rattle.byte_io.specs.declared.inputs.InputFault.{InputFault}
use Rattle.type_trees.specs.Tree.{Tree}
use Rattle.type_trees.specs.Types.{AreTypes}
use Rattle.file_types.specs.Read.{IsAccepted}
use Rattle.type_expressions.specs.Asked.{AreTrees, answered, shown_texts}
use Rattle.type_expressions.specs.declared.asked.Asked.{Asked}
use Rattle.show_commands.specs.Members.{ShowsMembers}

-- the definitions among the types of an input
pub shows_members : (known : Option (List (Result (List ℕ) InputFault))) (records : List (List ℕ)) (trees : List Tree) (asked found : List Asked) (text : List ℕ) → AreTypes records → AreTrees records trees
    → ((files : List (List ℕ)) → Give known files → IsAccepted (get_or files 0 []) records)
    → found ≡ map (answered trees) asked → text ≡ concat (shown_texts found 0 trees) → ShowsMembers known asked found text
shows_members known records trees asked found text types are accepted finds shows = record {
  records = records;
  are_types = types;
  trees = trees;
  are_trees = are;
  finds = finds;
  shows = shows;
  accepted = λ file gives. accepted (file ∷ []) gives;
}
