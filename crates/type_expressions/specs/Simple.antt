-- The names of simple types. The low byte of a type index below 0x1000 is the kind, and the bits
-- above it are the mode.
use Rattle.std.specs.Prelude.{ℕ, ◌/◌, ◌%◌, ◌==◌, if◌then◌else◌, List, [], ◌∷◌, ◌++◌, Option, Some, None, codes}
use Rattle.output_words.specs.Text.{digit}

-- the name of a kind of simple type
unfoldable pub simple_name : ℕ → Option (List ℕ)
simple_name kind =
    if kind == 0x00 then Some (codes "no type")
    else if kind == 0x01 then Some (codes "absolute symbol")
    else if kind == 0x02 then Some (codes "segment")
    else if kind == 0x03 then Some (codes "void")
    else if kind == 0x04 then Some (codes "currency")
    else if kind == 0x05 then Some (codes "near BASIC string")
    else if kind == 0x06 then Some (codes "far BASIC string")
    else if kind == 0x07 then Some (codes "type not translated")
    else if kind == 0x08 then Some (codes "HRESULT")
    else if kind == 0x10 then Some (codes "signed char")
    else if kind == 0x11 then Some (codes "short")
    else if kind == 0x12 then Some (codes "long")
    else if kind == 0x13 then Some (codes "__int64")
    else if kind == 0x14 then Some (codes "__int128")
    else if kind == 0x20 then Some (codes "unsigned char")
    else if kind == 0x21 then Some (codes "unsigned short")
    else if kind == 0x22 then Some (codes "unsigned long")
    else if kind == 0x23 then Some (codes "unsigned __int64")
    else if kind == 0x24 then Some (codes "unsigned __int128")
    else if kind == 0x30 then Some (codes "bool")
    else if kind == 0x31 then Some (codes "__bool16")
    else if kind == 0x32 then Some (codes "__bool32")
    else if kind == 0x33 then Some (codes "__bool64")
    else if kind == 0x34 then Some (codes "__bool128")
    else if kind == 0x40 then Some (codes "float")
    else if kind == 0x41 then Some (codes "double")
    else if kind == 0x42 then Some (codes "long double")
    else if kind == 0x43 then Some (codes "__float128")
    else if kind == 0x44 then Some (codes "__float48")
    else if kind == 0x45 then Some (codes "float of less precision")
    else if kind == 0x46 then Some (codes "__half")
    else if kind == 0x50 then Some (codes "complex float")
    else if kind == 0x51 then Some (codes "complex double")
    else if kind == 0x52 then Some (codes "complex long double")
    else if kind == 0x53 then Some (codes "complex __float128")
    else if kind == 0x54 then Some (codes "complex __float48")
    else if kind == 0x55 then Some (codes "complex float of less precision")
    else if kind == 0x56 then Some (codes "complex __half")
    else if kind == 0x60 then Some (codes "bit")
    else if kind == 0x61 then Some (codes "Pascal char")
    else if kind == 0x62 then Some (codes "__bool32ff")
    else if kind == 0x68 then Some (codes "__int8")
    else if kind == 0x69 then Some (codes "unsigned __int8")
    else if kind == 0x70 then Some (codes "char")
    else if kind == 0x71 then Some (codes "wchar_t")
    else if kind == 0x72 then Some (codes "__int16")
    else if kind == 0x73 then Some (codes "unsigned __int16")
    else if kind == 0x74 then Some (codes "int")
    else if kind == 0x75 then Some (codes "unsigned int")
    else if kind == 0x76 then Some (codes "int64_t")
    else if kind == 0x77 then Some (codes "uint64_t")
    else if kind == 0x78 then Some (codes "int128_t")
    else if kind == 0x79 then Some (codes "uint128_t")
    else if kind == 0x7A then Some (codes "char16_t")
    else if kind == 0x7B then Some (codes "char32_t")
    else if kind == 0x7C then Some (codes "char8_t")
    else None

-- the words before the name, by the mode: bits 8 to 11
unfoldable pub simple_mode_words : ℕ → Option (List ℕ)
simple_mode_words mode =
    if mode == 0 then Some []
    else if mode == 1 then Some (codes "near pointer to ")
    else if mode == 2 then Some (codes "far pointer to ")
    else if mode == 3 then Some (codes "huge pointer to ")
    else if mode == 4 then Some (codes "pointer to ")
    else if mode == 5 then Some (codes "far pointer of 48 bits to ")
    else if mode == 6 then Some (codes "pointer to ")
    else if mode == 7 then Some (codes "pointer of 128 bits to ")
    else None

-- the words before a name, and the name, where there are both
abbrev pub both_words : Option (List ℕ) → Option (List ℕ) → Option (List ℕ × List ℕ)
both_words (Some mode) (Some name) = Some (mode, name)
both_words mode name = None

-- the words before the name of a simple type, and its name; 0x103 is the type of `nullptr`
unfoldable pub simple_parts : ℕ → Option (List ℕ × List ℕ)
simple_parts n =
    if n == 0x103 then Some ([], codes "nullptr_t")
    else both_words (simple_mode_words (n / 256)) (simple_name (n % 256))

-- the text of a simple type with these words: the number itself where the tables lack it
abbrev pub parts_text : ℕ → Option (List ℕ × List ℕ) → List ℕ
parts_text n None = codes "0x" ++ digit (n / 256) ∷ digit (n / 16 % 16) ∷ digit (n % 16) ∷ []
parts_text n (Some (mode, name)) = mode ++ name

-- the text of a simple type
unfoldable pub simple_text : ℕ → List ℕ
simple_text n = parts_text n (simple_parts n)

-- the words of a simple type, where `nothing` is what stands for no type
unfoldable pub simple_words : List ℕ → ℕ → List ℕ
simple_words nothing n = if n == 0 then nothing else simple_text n
