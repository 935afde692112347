-- Which definitions of a list of types are shown.
use Rattle.std.specs.Prelude.{ℕ, suc, ◌≡◌, ◌+◌, ◌<◌, ◌==◌, not, Bool, true, false, if◌then◌else◌, List, [], ◌∷◌, ◌++◌, length, get_or, is_some}
use Rattle.std.specs.List.{list_any}
use Rattle.std.specs.Option.{option_map_or}
use Rattle.std.specs.Str.{bytes_eq}
use Rattle.tpi_records.specs.Header.{first_index}
use Rattle.cv_leaves.specs.Checks.{kind_of}
use Rattle.cv_leaves.specs.Name.{name_of}
use Rattle.type_trees.specs.Tree.{Tree, nothing, blank_of, IsTreeAt}
use Rattle.type_expressions.specs.Definition.{defined_words, only_declares, definition_text}
use Rattle.type_expressions.specs.declared.asked.Asked.{Asked}
use Rattle.type_expressions.specs.declared.asked.Found.{Found}
use Rattle.type_expressions.specs.declared.asked.Found.TheVariants.{Nothing, Declared, Defined}
use Rattle.type_expressions.specs.declared.asked.Query.{Query}
use Rattle.type_expressions.specs.declared.asked.Query.TheVariants.{Index, Name}

-- the tree at each position of the records
pub record AreTrees (records : List (List ℕ)) (trees : List Tree) : Type 0 where
  pub many : length trees ≡ length records
  pub each : (i : ℕ) → i < length records → IsTreeAt records i (get_or trees i nothing)

-- the record at position i has the type index, or the name, that is asked for
unfoldable pub is_meant : Query → ℕ → List ℕ → Bool
is_meant (Index n) i r = n == first_index + i
is_meant (Name name) i r = option_map_or (bytes_eq name.now) (name_of r) false

-- what a record is: the definition of a type, a declaration of one, or neither
unfoldable pub found_in : List ℕ → Found
found_in r =
    if not (is_some (defined_words (kind_of r))) then Nothing
    else if only_declares r then Declared
    else Defined

-- what the record at position i is of what is asked for
unfoldable pub found_at : Query → ℕ → List ℕ → Found
found_at query i r = if is_meant query i r then found_in r else Nothing

-- the better of two: a definition is better than a declaration
unfoldable pub better : Found → Found → Found
better Nothing found = found
better Declared Nothing = Declared
better Declared found = found
better Defined found = Defined

-- the best that is found among these trees, the first of which is at position i
unfoldable pub best : Query → ℕ → List Tree → Found
best query i [] = Nothing
best query i (t ∷ ts) = better (found_at query i (blank_of t)) (best query (suc i) ts)

-- what is asked, with the best that is found of it among all trees
abbrev pub answered : List Tree → Asked → Asked
answered trees asked = record { query = asked.query; found = best asked.query 0 trees }

-- whether something was found that is as good as the best
unfoldable pub is_best : Found → Found → Bool
is_best Declared Declared = true
is_best Defined Defined = true
is_best best found = false

-- whether the record at position i is shown: the best of what is asked for;
-- where nothing is asked for, each definition
unfoldable pub is_shown : List Asked → ℕ → List ℕ → Bool
is_shown [] i r = is_best Defined (found_in r)
is_shown asked i r = list_any (λ a. is_best a.found (found_at a.query i r)) asked

-- the texts of those definitions among these trees that are shown; the first tree is at position i
unfoldable pub shown_texts : List Asked → ℕ → List Tree → List (List ℕ)
shown_texts asked i [] = []
shown_texts asked i (t ∷ ts) =
    (if is_shown asked i (blank_of t) then definition_text t ∷ [] else [])
    ++ shown_texts asked (suc i) ts
