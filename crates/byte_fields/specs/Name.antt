-- Names that a NUL ends.
use Rattle.std.specs.Prelude.{ℕ, ◌==◌, nat_lt, Bool, List, Option, Some, None, length, take, drop, if◌then◌else◌}
use Rattle.std.specs.List.{position_or_len}

-- how many bytes there are before the first NUL
abbrev pub name_len : List ℕ → ℕ
name_len bytes = position_or_len (λ b. b == 0) bytes

-- there is a NUL at an offset or after it
unfoldable pub has_name : List ℕ → ℕ → Bool
has_name bytes offset = nat_lt (name_len (drop offset bytes)) (length (drop offset bytes))

-- the name at an offset: the bytes up to the first NUL, if one follows
unfoldable pub name_at : List ℕ → ℕ → Option (List ℕ)
name_at bytes offset =
    if has_name bytes offset then Some (take (name_len (drop offset bytes)) (drop offset bytes))
    else None
