-- What a text tells of two lists of types.
use Rattle.std.specs.Prelude.{ℕ, ◌≡◌, ◌↔◌, List, []}
use Rattle.std.specs.List.{Contains}
use Rattle.type_trees.specs.Tree.{Tree, IsType}
use Rattle.type_expressions.specs.Asked.{AreTrees}
use Rattle.type_changes.specs.Changes.{changes_text}
use Rattle.type_changes.specs.Definition.{Definition, definitions}

-- this text tells what changed between the definitions of two lists of types
pub record TellsChanges (records others : List (List ℕ)) (text : List ℕ) : Type 0 where
  pub trees : List Tree
  pub other_trees : List Tree
  pub are_trees : AreTrees records trees
  pub others_are_trees : AreTrees others other_trees
  pub tells : text ≡ changes_text (definitions trees) (definitions other_trees)
  -- it is empty exactly if both have the same definitions, and so if they have the same types
  pub empty : (text ≡ []) ↔ ((d : Definition)
      → Contains (definitions trees) d ↔ Contains (definitions other_trees) d)
  pub same : ((t : Tree) → IsType records t ↔ IsType others t) → text ≡ []
