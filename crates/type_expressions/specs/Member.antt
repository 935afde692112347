-- How a member of a field list is told in words ("CodeView Type Records").
use Rattle.std.specs.Prelude.{ℕ, ◌/◌, ◌%◌, ◌==◌, not, Bool, if◌then◌else◌, List, [], ◌∷◌, ◌++◌, Option, None, codes}
use Rattle.std.specs.Fmt.{decimal}
use Rattle.byte_fields.specs.Name.{name_at}
use Rattle.cv_leaves.specs.Attributes.{introduces}
use Rattle.cv_leaves.specs.Numeric.{has_numeric, numeric_end}
use Rattle.cv_leaves.specs.Name.{name_in}
use Rattle.cv_leaves.specs.declared.leaf.NamePlace.TheVariants.{AfterNumeric}
use Rattle.output_words.specs.Text.{quoted_name}
use Rattle.type_expressions.specs.Field.{number_in, numeric_text}

-- the kind of a member, and the two bytes after it, which are attributes in most kinds
abbrev pub member_kind : List ℕ → ℕ
member_kind m = number_in 2 m 0

abbrev pub attributes_of : List ℕ → ℕ
attributes_of m = number_in 2 m 2

-- who may use a member: bits 0 and 1 of its attributes
unfoldable pub access_words : ℕ → List ℕ
access_words attributes =
    if attributes % 4 == 1 then codes "private "
    else if attributes % 4 == 2 then codes "protected "
    else []

-- what kind of method a method is: bits 2 to 4 of its attributes
unfoldable pub method_words : ℕ → List ℕ
method_words attributes =
    let property = attributes / 4 % 8 in
    if property == 1 then codes "virtual method"
    else if property == 2 then codes "static method"
    else if property == 3 then codes "friend method"
    else if property == 4 then codes "new virtual method"
    else if property == 5 then codes "pure virtual method"
    else if property == 6 then codes "new pure virtual method"
    else codes "method"

-- the second of two numeric leaves, where the first is at the offset 12
unfoldable pub second_numeric : List ℕ → List ℕ
second_numeric m =
    if has_numeric m 12 then numeric_text m (numeric_end m 12) else codes "?"

-- the offset or the value of a member, or a dash where it has none
unfoldable pub place_words : List ℕ → List ℕ
place_words m =
    let kind = member_kind m in
    if kind == 0x1400 then numeric_text m 8
    else if kind == 0x1401 then numeric_text m 12
    else if kind == 0x1402 then numeric_text m 12
    else if kind == 0x1502 then numeric_text m 4
    else if kind == 0x150D then numeric_text m 8
    else if kind == 0x151A then numeric_text m 8
    else if kind == 0x1511 then (
    if introduces (attributes_of m) then decimal (number_in 4 m 8) else codes "-")
    else codes "-"

-- what a member is
unfoldable pub what_words : List ℕ → List ℕ
what_words m =
    let kind = member_kind m in
    let attributes = attributes_of m in
    let who = access_words attributes in
    if kind == 0x1400 then who ++ codes "base"
    else if kind == 0x1401 then who ++ codes "virtual base " ++ second_numeric m
    else if kind == 0x1402 then who ++ codes "indirect virtual base " ++ second_numeric m
    else if kind == 0x1409 then codes "virtual functions"
    else if kind == 0x1502 then codes "value"
    else if kind == 0x150D then who ++ codes "member"
    else if kind == 0x150E then who ++ codes "static"
    else if kind == 0x150F then decimal attributes ++ codes " methods"
    else if kind == 0x1510 then codes "nested"
    else if kind == 0x151A then who ++ codes "base"
    else who ++ method_words attributes

-- the name of a member
unfoldable pub member_name : List ℕ → Option (List ℕ)
member_name m =
    let kind = member_kind m in
    if kind == 0x1502 then name_in (AfterNumeric 4) m
    else if kind == 0x150D then name_in (AfterNumeric 8) m
    else if kind == 0x150E then name_at m 8
    else if kind == 0x150F then name_at m 8
    else if kind == 0x1510 then name_at m 8
    else if kind == 0x1511 then (
    if introduces (attributes_of m) then name_at m 12 else name_at m 8)
    else None

-- an enumerator names no type; any other member does, at the offset 4
abbrev pub names_type : List ℕ → Bool
names_type m = not (member_kind m == 0x1502)

-- the line of a member, where `text` is that of the type that it names:
-- its offset or value, what it is, its name, its type
unfoldable pub member_line : List ℕ → List ℕ → List ℕ
member_line m text =
    place_words m ++ 32 ∷ what_words m ++ quoted_name (member_name m)
    ++ (if names_type m then 32 ∷ text else [])
