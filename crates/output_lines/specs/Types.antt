-- The line of a type.
use Rattle.std.specs.Prelude.{ℕ, List, [], ◌∷◌, ◌++◌, length}
use Rattle.std.specs.Option.{option_map_or}
use Rattle.std.specs.List.{flat_map}
use Rattle.std.specs.Fmt.{decimal}
use Rattle.byte_fields.specs.Number.{number_at}
use Rattle.cv_leaves.specs.Leaf.{leaf_of}
use Rattle.cv_leaves.specs.Checks.{kind_of, body_of}
use Rattle.cv_leaves.specs.Name.{name_of}
use Rattle.output_words.specs.Text.{index_text, quoted_name}

-- a space and a reference: the type index at a place of a record
abbrev pub reference : List ℕ → ℕ → List ℕ
reference bytes place = 32 ∷ index_text (number_at 4 (body_of bytes) place)

-- the name of the leaf of a record
unfoldable pub leaf_name : List ℕ → List ℕ
leaf_name bytes = option_map_or (λ l. l.text) (leaf_of (kind_of bytes)) []

-- the line of a record with these places: its type index, the name of its leaf, its size in bytes,
-- each reference, its name
unfoldable pub type_line : ℕ → List ℕ → List ℕ → List ℕ
type_line index bytes places =
    index_text index
    ++ 32 ∷ leaf_name bytes
    ++ 32 ∷ decimal (length bytes)
    ++ flat_map (reference bytes) places
    ++ quoted_name (name_of bytes)
    ++ 10 ∷ []
