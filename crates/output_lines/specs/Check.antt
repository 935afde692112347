-- The lines on types that are accepted.
use Rattle.std.specs.Prelude.{ℕ, List, ◌∷◌, ◌++◌, codes}
use Rattle.output_words.specs.Text.{named_line}

-- what is printed of types that have this number of records, of bytes together and of levels
unfoldable pub checked_lines : ℕ → ℕ → ℕ → List ℕ
checked_lines records bytes levels =
    codes "accepted"
    ++ 10 ∷ named_line (codes "records") records
    ++ named_line (codes "bytes") bytes
    ++ named_line (codes "levels") levels
