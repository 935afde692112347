-- Lists of numbers that are made of bytes.
use Rattle.std.specs.Prelude.{ℕ, ◌<◌, List, get_or}

-- each number is a byte: it is below 256
abbrev pub AreBytes : List ℕ → Type 0
AreBytes bytes = (i : ℕ) → get_or bytes i 0 < 256
