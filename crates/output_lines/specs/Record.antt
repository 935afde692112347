-- The text of one record.
use Rattle.std.specs.Prelude.{ℕ, List, [], ◌∷◌, ◌++◌, Option, Some, None, codes}
use Rattle.std.specs.Fmt.{decimal}
use Rattle.hex.specs.Hex.{encode_lower}
use Rattle.byte_fields.specs.Number.{number_at}
use Rattle.cv_leaves.specs.Checks.{body_of}
use Rattle.output_words.specs.Text.{index_text, quoted}

-- the line of the bytes of a record, in hexadecimal
unfoldable pub bytes_line : List ℕ → List ℕ
bytes_line bytes = encode_lower bytes ++ 10 ∷ []

-- the line of a place of a record: the place, and the type index at it
unfoldable pub place_line : List ℕ → ℕ → List ℕ
place_line bytes place =
    decimal place ++ 32 ∷ index_text (number_at 4 (body_of bytes) place) ++ 10 ∷ []

-- the line of a name, where there is one
unfoldable pub name_lines : Option (List ℕ) → List ℕ
name_lines None = []
name_lines (Some name) = codes "name " ++ quoted name ++ 10 ∷ []
