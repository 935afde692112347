-- How numbers and texts are printed.
use Rattle.std.specs.Prelude.{ℕ, ◌/◌, ◌%◌, ◌==◌, ◌&&◌, nat_le, not, if◌then◌else◌, false, Bool, List, [], ◌∷◌, ◌++◌, Option, Some, None, codes}
use Rattle.std.specs.List.{flat_map}
use Rattle.std.specs.Fmt.{digits, decimal, digit_glyph}

-- a type index, or another number in the same form:
-- 0x and lower case hexadecimal digits without leading zeros
abbrev pub index_text : ℕ → List ℕ
index_text index = codes "0x" ++ digits 16 false index

-- one lower case hexadecimal digit
abbrev pub digit : ℕ → ℕ
digit n = digit_glyph false n

-- the kind of a record: 0x and four lower case hexadecimal digits
abbrev pub kind_text : ℕ → List ℕ
kind_text kind =
    codes "0x"
    ++ (digit (kind / 256 / 16) ∷ digit (kind / 256 % 16) ∷ digit (kind % 256 / 16)
    ∷ digit (kind % 256 % 16) ∷ [])

-- a byte that is printed as itself within quotes:
-- printable ASCII, except the quote and the backslash
unfoldable pub is_plain : ℕ → Bool
is_plain byte = nat_le 0x20 byte && nat_le byte 0x7E && not (byte == 34) && not (byte == 92)

-- a byte within quotes: a byte that is not plain is written by its number
abbrev pub quoted_byte : ℕ → List ℕ
quoted_byte byte =
    if is_plain byte then byte ∷ [] else 92 ∷ 120 ∷ digit (byte / 16) ∷ digit (byte % 16) ∷ []

-- a text in quotes
unfoldable pub quoted : List ℕ → List ℕ
quoted text = 34 ∷ flat_map quoted_byte text ++ 34 ∷ []

-- a space and a name in quotes, where there is a name
unfoldable pub quoted_name : Option (List ℕ) → List ℕ
quoted_name None = []
quoted_name (Some name) = 32 ∷ quoted name

-- a line with a name and a number
unfoldable pub named_line : List ℕ → ℕ → List ℕ
named_line name number = name ++ 32 ∷ decimal number ++ 10 ∷ []
