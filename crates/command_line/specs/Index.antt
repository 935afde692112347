-- A type index as an argument of the command line.
use Rattle.std.specs.Prelude.{ℕ, ◌≡◌, ◌≤◌, List, ◌++◌, length, codes}
use Rattle.std.specs.Str.Parse.{IsNumeral, digits_value}
use Rattle.type_expressions.specs.declared.asked.Query.{Query}
use Rattle.type_expressions.specs.declared.asked.Query.TheVariants.{Index, Name}

-- the argument is an index of this value: 0x and 1 to 8 hexadecimal digits of either case
abbrev pub IsIndexArgument : List ℕ → ℕ → Type 0
IsIndexArgument argument value =
    (digits : List ℕ)
    × (argument ≡ codes "0x" ++ digits)
    × IsNumeral 16 digits
    × (length digits ≤ 8)
    × (value ≡ digits_value 16 digits)

-- an argument asks for this: the type with this type index, or the types with this name,
-- where it is no type index
abbrev pub AsksFor : List ℕ → Query → Type 0
AsksFor argument (Index value) = IsIndexArgument argument value
AsksFor argument (Name name) =
    (name.now ≡ argument) × ((value : ℕ) → IsIndexArgument argument value → ⊥)
