-- What the attributes of pointers and methods say ("CodeView Type Records").
use Rattle.std.specs.Prelude.{ℕ, ◌/◌, ◌%◌, ◌==◌, ◌||◌, Bool}

-- the attributes of a pointer say that it points to a member: bits 5 to 7 are 2 or 3
abbrev pub points_to_member : ℕ → Bool
points_to_member attributes = let mode = attributes / 32 % 8 in mode == 2 || mode == 3

-- the attributes of a method say that it introduces a virtual: bits 2 to 4 are 4 or 6
abbrev pub introduces : ℕ → Bool
introduces attributes = let property = attributes / 4 % 8 in property == 4 || property == 6
