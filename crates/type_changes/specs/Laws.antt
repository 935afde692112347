-- Laws of what changed between two lists of definitions.
use Rattle.std.specs.Prelude.{ℕ, ◌≡◌, ◌↔◌, ◌⊎◌, List, [], ◌++◌, codes}
use Rattle.std.specs.List.{Contains}
use Rattle.type_trees.specs.Tree.{Tree, IsType}
use Rattle.type_expressions.specs.Asked.{AreTrees}
use Rattle.type_changes.specs.Definition.{Definition, definitions}
use Rattle.type_changes.specs.Lone.{lone}
use Rattle.type_changes.specs.Changes.{changed, changes_text, gone_text, whole}

-- nothing is shown exactly where both lists have the same definitions
abbrev pub NothingChanged : Type 0
NothingChanged =
    (ours theirs : List Definition)
    → (changes_text ours theirs ≡ []) ↔ ((d : Definition) → Contains ours d ↔ Contains theirs d)

-- where others have all types of some records, they have all definitions of them
abbrev pub TypesHaveDefinitions : Type 0
TypesHaveDefinitions =
    (records others : List (List ℕ)) (trees other_trees : List Tree)
    → AreTrees records trees → AreTrees others other_trees
    → ((t : Tree) → IsType records t → IsType others t)
    → (d : Definition) → Contains (definitions trees) d → Contains (definitions other_trees) d

-- each definition that only our list has is shown, as what changed or as what went
abbrev pub LoneIsShown : Type 0
LoneIsShown =
    (ours theirs : List Definition) (d : Definition) → Contains ours d → (Contains theirs d → ⊥)
    → (before after : List ℕ)
    × (changes_text ours theirs
    ≡ before ++ gone_text (lone ours theirs) (lone theirs ours) d ++ after)

-- each definition that only their list has is shown, as what came or as what one of ours is now
abbrev pub CameIsShown : Type 0
CameIsShown =
    (ours theirs : List Definition) (d : Definition) → Contains theirs d → (Contains ours d → ⊥)
    → (before shown after : List ℕ)
    × (changes_text ours theirs ≡ before ++ shown ++ after)
    × ((shown ≡ whole (codes "+ ") d)
    ⊎ ((old : Definition) × Contains (lone ours theirs) old × (shown ≡ changed old d)))
