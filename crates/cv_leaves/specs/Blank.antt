-- Numbers at the places of a record.
use Rattle.std.specs.Prelude.{ℕ, ◌+◌, List, [], ◌∷◌, ◌++◌, take, drop}
use Rattle.byte_fields.specs.Number.{four_bytes}

-- the bytes with the number n in the four from `at` on
unfoldable pub put_four : List ℕ → ℕ → ℕ → List ℕ
put_four x at n = take at x ++ (four_bytes n ++ drop (at + 4) x)

-- the record with these numbers at these places of its body, the first place first
abbrev pub fill : List ℕ → List ℕ → List ℕ → List ℕ
fill r [] ns = r
fill r (p ∷ ps) [] = r
fill r (p ∷ ps) (n ∷ ns) = fill (put_four r (4 + p) n) ps ns

-- the record with zeros at these places of its body
abbrev pub blank : List ℕ → List ℕ → List ℕ
blank r [] = r
blank r (p ∷ ps) = blank (put_four r (4 + p) 0) ps
