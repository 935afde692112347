-- Where the types of files went.
use Rattle.std.specs.Prelude.{ℕ, ◌+◌, List, [], ◌∷◌, ◌++◌}
use Rattle.std.specs.Fmt.{decimal}
use Rattle.tpi_records.specs.Header.{first_index}
use Rattle.output_words.specs.Text.{index_text}

-- the line of a record: the position of its file, its type index, and the type index of its type in
-- the file that was written
unfoldable pub map_line : ℕ → ℕ → ℕ → List ℕ
map_line file old new =
    decimal file ++ 32 ∷ index_text old ++ 32 ∷ index_text new ++ 10 ∷ []

-- the lines of the records of a file, by the positions of their types; the first record has this
-- type index
unfoldable pub map_lines : ℕ → ℕ → List ℕ → List ℕ
map_lines file index [] = []
map_lines file index (number ∷ numbers) =
    map_line file index (first_index + number) ++ map_lines file (index + 1) numbers

-- the lines of the records of all files; the first file has this position
unfoldable pub lines_of_maps : ℕ → List (List ℕ) → List ℕ
lines_of_maps file [] = []
lines_of_maps file (numbers ∷ maps) =
    map_lines file first_index numbers ++ lines_of_maps (file + 1) maps
