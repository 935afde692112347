-- Laws of the texts of types.
use Rattle.std.specs.Prelude.{ℕ, ◌≡◌, ◌+◌, ◌<◌, List, [], length}
use Rattle.std.specs.List.{Contains}
use Rattle.tpi_records.specs.Header.{first_index}
use Rattle.type_trees.specs.Tree.{Tree, IsTreeAt, IsType}
use Rattle.type_trees.specs.Types.{AreTypes}
use Rattle.type_expressions.specs.Asked.{AreTrees, shown_texts}
use Rattle.type_expressions.specs.Expression.{IsTold}

-- the same type has the same words, in whatever records it stands, and at whatever position
abbrev pub SameTypeSameWords : Type 0
SameTypeSameWords =
    (records others : List (List ℕ)) (i k deep : ℕ) (t : Tree) (words told : List ℕ)
    → IsTreeAt records i t → IsTreeAt others k t
    → IsTold records deep (first_index + i) words → IsTold others deep (first_index + k) told
    → words ≡ told

-- each reference of records that make types has words
abbrev pub WordsExist : Type 0
WordsExist =
    (records : List (List ℕ)) (deep to : ℕ) → AreTypes records → to < first_index + length records
    → (words : List ℕ) × IsTold records deep to words

-- records that make types have a tree at each position
abbrev pub TreesExist : Type 0
TreesExist =
    (records : List (List ℕ)) → AreTypes records → (trees : List Tree) × AreTrees records trees

-- where others have all types of some records, they have all definitions of them
abbrev pub SameTypesSameDefinitions : Type 0
SameTypesSameDefinitions =
    (records others : List (List ℕ)) (trees other_trees : List Tree)
    → AreTrees records trees → AreTrees others other_trees
    → ((t : Tree) → IsType records t → IsType others t)
    → (text : List ℕ) → Contains (shown_texts [] 0 trees) text
    → Contains (shown_texts [] 0 other_trees) text
