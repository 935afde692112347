-- Texts of bounded length.
use Rattle.std.specs.Prelude.{ℕ, ◌≡◌, nat_le, if◌then◌else◌, List, ◌++◌, length, take, codes}
use Rattle.std.specs.List.{flat_map}
use Rattle.output_words.specs.Text.{quoted_byte}

-- these bytes are printed as themselves within quotes
abbrev pub ArePlain : List ℕ → Type 0
ArePlain bytes = flat_map quoted_byte bytes ≡ bytes

-- the text as it is shown: whole where it has at most `many` bytes, otherwise its first `many`
-- bytes and two points
unfoldable pub cut : ℕ → List ℕ → List ℕ
cut many text = if nat_le (length text) many then text else take many text ++ codes ".."
