-- The lines of records.
use Rattle.std.specs.Prelude.{ℕ, ◌+◌, List, [], ◌∷◌, ◌++◌, length}
use Rattle.std.specs.Fmt.{decimal}
use Rattle.byte_fields.specs.Number.{number_at}
use Rattle.output_words.specs.Text.{index_text, kind_text}

-- the line of a record: its type index, its kind, its size in bytes
unfoldable pub record_line : ℕ → List ℕ → List ℕ
record_line index bytes =
    index_text index
    ++ 32 ∷ kind_text (number_at 2 bytes 2)
    ++ 32 ∷ decimal (length bytes)
    ++ 10 ∷ []

-- the lines of records in order; the first record has this type index
unfoldable pub record_lines : ℕ → List (List ℕ) → List ℕ
record_lines index [] = []
record_lines index (bytes ∷ others) = record_line index bytes ++ record_lines (index + 1) others
