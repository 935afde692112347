-- The fields of a record that its text shows. An offset is one in the body of the record.
use Rattle.std.specs.Prelude.{ℕ, ◌+◌, ◌-◌, ◌==◌, nat_le, nat_lt, if◌then◌else◌, List, ◌∷◌, Option, Some, None, length, take, codes}
use Rattle.std.specs.Option.{option_map_or, option_or}
use Rattle.std.specs.Fmt.{decimal}
use Rattle.byte_fields.specs.Name.{name_at}
use Rattle.byte_fields.specs.Number.{number_at}
use Rattle.cv_leaves.specs.Numeric.{has_numeric}
use Rattle.cv_leaves.specs.Name.{from_name, name_of}
use Rattle.output_words.specs.Text.{quoted}

-- the number of `count` bytes at an offset of a body, or 0 where it does not fit
unfoldable pub number_in : ℕ → List ℕ → ℕ → ℕ
number_in count body at = if nat_le (at + count) (length body) then number_at count body at else 0

-- a number in two's complement, where `half` is the lowest number that stands for a negative one
unfoldable pub signed : ℕ → ℕ → List ℕ
signed half n = if nat_lt n half then decimal n else 45 ∷ decimal (half + half - n)

-- the value of the numeric leaf at an offset of a body
unfoldable pub numeric_value : List ℕ → ℕ → List ℕ
numeric_value body at =
    let kind = number_at 2 body at in
    if nat_lt kind 0x8000 then decimal kind
    else if kind == 0x8000 then signed 0x80 (number_at 1 body (at + 2))
    else if kind == 0x8001 then signed 0x8000 (number_at 2 body (at + 2))
    else if kind == 0x8002 then decimal (number_at 2 body (at + 2))
    else if kind == 0x8003 then signed 0x80000000 (number_at 4 body (at + 2))
    else if kind == 0x8004 then decimal (number_at 4 body (at + 2))
    else if kind == 0x8009 then signed 0x8000000000000000 (number_at 8 body (at + 2))
    else decimal (number_at 8 body (at + 2))

-- the same, or a question mark where no numeric leaf is there
unfoldable pub numeric_text : List ℕ → ℕ → List ℕ
numeric_text body at = if has_numeric body at then numeric_value body at else codes "?"

-- a name in quotes, or a question mark where there is none
unfoldable pub name_text : Option (List ℕ) → List ℕ
name_text None = codes "?"
name_text (Some name) = quoted name

-- the name at the head of these bytes, as far as it is shown: where the first 400 have no NUL,
-- and more follow, it is these 400
unfoldable pub shown_name : List ℕ → Option (List ℕ)
shown_name bytes =
    option_or (name_at (take 400 bytes) 0)
    (if nat_lt 400 (length bytes) then Some (take 400 bytes) else None)

-- the name of the type that a record describes, as far as it is shown, in quotes
unfoldable pub told_name : List ℕ → List ℕ
told_name r = name_text (option_map_or shown_name (from_name r) None)

-- the whole name of the type that a record describes, in quotes
unfoldable pub own_name : List ℕ → List ℕ
own_name r = name_text (name_of r)
