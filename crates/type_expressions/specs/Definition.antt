-- The text of a class, a structure, a union, an interface or an enumeration,
-- which is a function of its tree.
use Rattle.std.specs.Prelude.{ℕ, ◌+◌, ◌/◌, ◌%◌, ◌==◌, Bool, if◌then◌else◌, List, [], ◌∷◌, ◌++◌, Option, Some, None, length, codes, is_some}
use Rattle.std.specs.Option.{option_map_or}
use Rattle.cv_leaves.specs.Checks.{kind_of, body_of, places_of}
use Rattle.type_trees.specs.Tree.{Tree, tree, blank_of}
use Rattle.type_expressions.specs.Expression.{position_of}
use Rattle.type_expressions.specs.Field.{number_in, numeric_text, own_name}
use Rattle.type_expressions.specs.Lines.{shown_type, lines_at, lines_text}
use Rattle.type_expressions.specs.declared.definition.Parts.{Parts}

-- what a record defines, by its kind
unfoldable pub defined_words : ℕ → Option (List ℕ)
defined_words kind =
    if kind == 0x1504 then Some (codes "class")
    else if kind == 0x1505 then Some (codes "structure")
    else if kind == 0x1506 then Some (codes "union")
    else if kind == 0x1507 then Some (codes "enumeration")
    else if kind == 0x1519 then Some (codes "interface")
    else None

-- it only declares the type, and has no members: bit 7 of its properties
unfoldable pub only_declares : List ℕ → Bool
only_declares r = number_in 2 (body_of r) 2 / 128 % 2 == 1

-- what stands before the size of a definition, where `words` say what it defines: its name
unfoldable pub title : List ℕ → List ℕ → List ℕ
title words r =
    words ++ 32 ∷ own_name r ++ (if kind_of r == 0x1507 then codes " of " else codes " size ")

-- the size of a type; or the type of its values where it is an enumeration, of which `at` gives
-- the text at each place
unfoldable pub size_text : List ℕ → (ℕ → List ℕ) → List ℕ
size_text r at =
    if kind_of r == 0x1507 then at 4
    else if kind_of r == 0x1506 then numeric_text (body_of r) 8
    else numeric_text (body_of r) 16

-- what stands behind the size of a definition, or of a declaration
unfoldable pub end_of_head : List ℕ → List ℕ
end_of_head r = if only_declares r then codes " declared only\n" else codes "\n"

-- the place of the field list of a definition
abbrev pub list_place : ℕ → ℕ
list_place kind = if kind == 0x1507 then 8 else 4

-- the parts of the text of a definition: what stands before its size, its size,
-- and the lines of its members
unfoldable pub title_of : Tree → List ℕ
title_of (tree b bs) = option_map_or (λ words. title words b) (defined_words (kind_of b)) []

unfoldable pub definition_size : Tree → List ℕ
definition_size (tree b bs) = size_text b (λ place. shown_type bs (position_of place (places_of b)))

unfoldable pub members_text : Tree → List ℕ
members_text (tree b bs) =
    lines_text (lines_at bs (position_of (list_place (kind_of b)) (places_of b)))

-- a tree is that of a definition, or of a declaration
abbrev pub is_definition : Tree → Bool
is_definition t = is_some (defined_words (kind_of (blank_of t)))

-- the head of a definition, and a line for each member; any other record has no text
unfoldable pub definition_text : Tree → List ℕ
definition_text t =
    if is_definition t then (
    title_of t ++ definition_size t ++ end_of_head (blank_of t) ++ members_text t) else []

-- where the parts stand of a text that begins at `start`
unfoldable pub parts_of : ℕ → Tree → Option Parts
parts_of start t =
    if is_definition t then Some (record {
      size = start + length (title_of t);
      head = start + length (title_of t ++ definition_size t);
      lines = start + length (title_of t ++ definition_size t ++ end_of_head (blank_of t));
    }) else None
