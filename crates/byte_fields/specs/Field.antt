-- Fields of a list of bytes.
use Rattle.std.specs.Prelude.{ℕ, ◌+◌, nat_le, Bool, List, length}

-- the field of `len` bytes at an offset lies within the bytes
abbrev pub fits : List ℕ → ℕ → ℕ → Bool
fits bytes offset len = nat_le (offset + len) (length bytes)
