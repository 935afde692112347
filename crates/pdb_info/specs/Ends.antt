-- Where the names of the string buffer end.
use Rattle.std.specs.Prelude.{ℕ, ◌≡◌, ◌+◌, ◌*◌, ◌<◌, ◌≤◌, List, length, drop, get_or}
use Rattle.byte_fields.specs.Name.{name_len}

-- for each 64th byte of the buffer, the end of the name that begins there:
-- where the next NUL is, or the length of the buffer
abbrev pub AreEnds : List ℕ → List ℕ → Type 0
AreEnds buffer ends =
    (part : ℕ) → 64 * part ≤ length buffer
    → (part < length ends) × (get_or ends part 0 ≡ 64 * part + name_len (drop (64 * part) buffer))
