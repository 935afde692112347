-- Little-endian numbers: how they are read from bytes, and how they are written as bytes.
use Rattle.std.specs.Prelude.{ℕ, ◌*◌, List, drop}
use Rattle.std.specs.List.{flat_map}
use Rattle.byteorder.specs.Endian.{little_number, little_bytes}

-- the number in `count` bytes at an offset, with the lowest byte first
unfoldable pub number_at : ℕ → List ℕ → ℕ → ℕ
number_at count bytes offset = little_number count (drop offset bytes)

-- the four bytes of a number, with the lowest byte first
unfoldable pub four_bytes : ℕ → List ℕ
four_bytes number = little_bytes 4 number

-- the bytes of several numbers of four bytes each, one after the other
abbrev pub u32s : List ℕ → List ℕ
u32s numbers = flat_map four_bytes numbers

-- the number at a position, from 0, in a list of four-byte numbers
unfoldable pub nth_u32 : List ℕ → ℕ → ℕ
nth_u32 text position = number_at 4 text (4 * position)
