-- The definitions of the types of a file.
use Rattle.std.specs.Prelude.{ℕ, ◌≡◌, List, map}
use Rattle.std.specs.Borrow.{Bor}
use Rattle.std.specs.List.{concat}
use Rattle.type_trees.specs.Tree.{Tree}
use Rattle.file_types.specs.Read.{IsAccepted}
use Rattle.type_expressions.specs.Asked.{AreTrees, answered, shown_texts}
use Rattle.type_expressions.specs.declared.asked.Asked.{Asked}
use Rattle.type_expressions.specs.declared.asked.Found.TheVariants.{Nothing}
use Rattle.type_expressions.specs.declared.asked.Query.TheVariants.{Name}

-- what is asked for by a name, before it is looked for
abbrev pub asked_by : Bor (List ℕ) → Asked
asked_by name = record { query = Name name; found = Nothing }

-- this is the text of the definitions among types that have one of these names;
-- of all definitions if there are no names
pub record TellsMembers (records : List (List ℕ)) (names : List (Bor (List ℕ))) (text : List ℕ)
    : Type 0 where
  pub trees : List Tree
  pub are_trees : AreTrees records trees
  pub tells : text ≡ concat (shown_texts (map (answered trees) (map asked_by names)) 0 trees)

-- the file is accepted, and this is that text of its types
pub record AreMembers (file : List ℕ) (names : List (Bor (List ℕ))) (text : List ℕ) : Type 0 where
  pub records : List (List ℕ)
  pub accepted : IsAccepted file records
  pub members : TellsMembers records names text
