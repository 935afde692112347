-- How a record is told in words, from its blank and the texts at its places.
use Rattle.std.specs.Prelude.{ℕ, ◌+◌, ◌-◌, ◌/◌, ◌%◌, ◌==◌, if◌then◌else◌, List, [], ◌∷◌, ◌++◌, map, codes}
use Rattle.std.specs.Fmt.{decimal}
use Rattle.cv_leaves.specs.Attributes.{points_to_member}
use Rattle.cv_leaves.specs.Checks.{kind_of, places_of, body_of}
use Rattle.type_expressions.specs.Field.{number_in, numeric_text, told_name}

-- texts one after the other: the first one after `before`, each other one after the separator
abbrev pub strung : List ℕ → List ℕ → List (List ℕ) → List ℕ
strung before separator [] = []
strung before separator (text ∷ others) = before ++ (text ++ strung separator separator others)

-- the words if the bit is set
abbrev pub if_bit : ℕ → List ℕ → List ℕ
if_bit bit words = if bit % 2 == 1 then words else []

-- the words of a modifier: bit 0 is const, bit 1 volatile, bit 2 unaligned
unfoldable pub modifier_words : List ℕ → List ℕ
modifier_words body =
    let flags = number_in 2 body 4 in
    if_bit flags (codes "const ") ++ if_bit (flags / 2) (codes "volatile ")
    ++ if_bit (flags / 4) (codes "unaligned ")

-- the words of a mode of pointers
unfoldable pub pointer_mode_words : ℕ → List ℕ
pointer_mode_words mode =
    if mode == 0 then codes "pointer to "
    else if mode == 1 then codes "reference to "
    else if mode == 2 then codes "pointer to member of "
    else if mode == 3 then codes "pointer to method of "
    else if mode == 4 then codes "rvalue reference to "
    else if mode == 5 then codes "pointer of mode 5 to "
    else if mode == 6 then codes "pointer of mode 6 to "
    else codes "pointer of mode 7 to "

-- the words of a pointer: bit 9 of its attributes is volatile, bit 10 const, bit 11 unaligned and
-- bit 12 restrict; bits 5 to 7 are its mode
unfoldable pub pointer_words : List ℕ → List ℕ
pointer_words body =
    let flags = number_in 4 body 4 in
    if_bit (flags / 1024) (codes "const ") ++ if_bit (flags / 512) (codes "volatile ")
    ++ if_bit (flags / 2048) (codes "unaligned ") ++ if_bit (flags / 4096) (codes "restrict ")
    ++ pointer_mode_words (flags / 32 % 8)

-- the bits of a bit field: which is the first, and which is the last
unfoldable pub bit_words : List ℕ → List ℕ
bit_words body =
    codes ", bits " ++ decimal (number_in 1 body 5)
    ++ codes " to " ++ decimal (number_in 1 body 5 + number_in 1 body 4 - 1)

-- what stands for no type where a record names it: three points in a list of arguments
unfoldable pub nothing_words : List ℕ → List ℕ
nothing_words b = if kind_of b == 0x1201 then codes "..." else codes "no type"

-- the words of a record that are none of those that it names: by its kind, or else its own name
unfoldable pub plain_words : List ℕ → List ℕ
plain_words b =
    let kind = kind_of b in
    if kind == 0x000A then codes "virtual table of " ++ decimal (number_in 2 (body_of b) 0)
    else if kind == 0x000E then codes "label"
    else if kind == 0x1203 then codes "fields"
    else if kind == 0x151D then codes "virtual table"
    else told_name b

-- the words of a record, where `at` gives the text at each of its places
unfoldable pub told : List ℕ → (ℕ → List ℕ) → List ℕ
told b at =
    let kind = kind_of b in
    let body = body_of b in
    if kind == 0x1001 then modifier_words body ++ at 0
    else if kind == 0x1002 then (
    if points_to_member (number_in 4 body 4) then pointer_words body ++ at 8 ++ codes ", " ++ at 0
    else pointer_words body ++ at 0)
    else if kind == 0x1008 then codes "function " ++ at 8 ++ codes " giving " ++ at 0
    else if kind == 0x1009 then
    codes "method " ++ at 16 ++ codes " of " ++ at 4 ++ codes " giving " ++ at 0
    else if kind == 0x1201 then
    codes "(" ++ strung [] (codes ", ") (map at (places_of b)) ++ codes ")"
    else if kind == 0x1206 then strung [] (codes " or ") (map at (places_of b))
    else if kind == 0x1205 then at 0 ++ bit_words body
    else if kind == 0x1503 then
    codes "array of " ++ numeric_text body 8 ++ codes " bytes of " ++ at 0
    else plain_words b
