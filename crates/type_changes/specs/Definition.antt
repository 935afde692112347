-- What is compared of a definition, which is a function of its tree.
use Rattle.std.specs.Prelude.{ℕ, ◌+◌, ◌/◌, ◌%◌, ◌==◌, ◌&&◌, not, Bool, if◌then◌else◌, List, [], ◌∷◌, ◌++◌, Option, Some, None, length}
use Rattle.std.specs.Option.{option_map_or}
use Rattle.byte_fields.specs.Name.{name_at}
use Rattle.cv_leaves.specs.Checks.{kind_of, body_of}
use Rattle.cv_leaves.specs.Name.{name_of}
use Rattle.cv_leaves.specs.Numeric.{has_numeric, numeric_end}
use Rattle.type_trees.specs.Tree.{Tree, blank_of}
use Rattle.type_expressions.specs.Definition.{is_definition, only_declares, title_of, definition_size, members_text}
use Rattle.type_expressions.specs.Field.{number_in}

-- what a definition is known by: the kind of its record, and its unique name,
-- or its name where it has none
pub record Key : Type 0 where
  pub kind : ℕ
  pub name : List ℕ

-- what is compared of a definition: what it is known by, and the parts of its text
pub record Definition : Type 0 where
  pub key : Key
  -- what its text says before its size: what it defines, and its name
  pub title : List ℕ
  -- its size, or the type of its values
  pub size : List ℕ
  -- the lines of its members
  pub lines : List ℕ

-- the definition has a unique name: bit 9 of its properties
unfoldable pub has_unique_name : List ℕ → Bool
has_unique_name r = number_in 2 (body_of r) 2 / 512 % 2 == 1

-- where the numeric leaf at an offset of a body ends, if there is one
abbrev pub behind_numeric : List ℕ → ℕ → Option ℕ
behind_numeric body at = if has_numeric body at then Some (numeric_end body at) else None

-- where the name of a definition begins in its body: behind its size, or at the offset 12 in an
-- enumeration
unfoldable pub name_place : List ℕ → Option ℕ
name_place r =
    if kind_of r == 0x1507 then Some 12
    else if kind_of r == 0x1506 then behind_numeric (body_of r) 8
    else behind_numeric (body_of r) 16

-- the unique name of a definition with this name, if it can be read: it is behind the NUL of the
-- name
unfoldable pub unique_name : List ℕ → List ℕ → Option (List ℕ)
unique_name r name =
    option_map_or (λ at. name_at (body_of r) (at + length name + 1)) (name_place r) None

-- one of the two that is there
abbrev pub or_else : List ℕ → Option (List ℕ) → List ℕ
or_else other None = other
or_else other (Some name) = name

-- the name by which the definition with this name is known
unfoldable pub known_by : List ℕ → Option (List ℕ) → List ℕ
known_by r None = []
known_by r (Some name) = if has_unique_name r then or_else name (unique_name r name) else name

-- what the definition is known by that a record is
unfoldable pub key_of : List ℕ → Key
key_of r = record { kind = kind_of r; name = known_by r (name_of r) }

-- what is compared of the definition whose tree this is
unfoldable pub definition_of : Tree → Definition
definition_of t = record {
  key = key_of (blank_of t);
  title = title_of t;
  size = definition_size t;
  lines = members_text t;
}

-- the tree is that of a definition, and of no declaration
abbrev pub is_whole : Tree → Bool
is_whole t = is_definition t && not (only_declares (blank_of t))

-- the definition whose tree this is, if it is one
unfoldable pub defined_by : Tree → List Definition
defined_by t = if is_whole t then definition_of t ∷ [] else []

-- the definitions among trees, in their order
unfoldable pub definitions : List Tree → List Definition
definitions [] = []
definitions (t ∷ ts) = defined_by t ++ definitions ts
