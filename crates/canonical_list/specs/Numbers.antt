-- The numbers of types: the positions of their trees in a table.
use Rattle.std.specs.Prelude.{ℕ, ◌≡◌, List, length, get_or}
use Rattle.type_trees.specs.Tree.{Tree, IsTreeAt}

-- each record has a number: the position in the table at which its tree is
pub record AreNumbers (records table : List (List ℕ)) (numbers : List ℕ) : Type 0 where
  pub many : length numbers ≡ length records
  pub stand : (i : ℕ) (t : Tree) → IsTreeAt records i t → IsTreeAt table (get_or numbers i 0) t
