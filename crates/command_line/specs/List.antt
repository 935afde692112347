-- Lists of paths, which stand for arguments.
use Rattle.std.specs.Prelude.{ℕ, ◌≡◌, ◌≢◌, ◌⊎◌, List, [], ◌∷◌, ◌++◌, Contains}
use Rattle.std.specs.Str.{IsUtf8}

-- the text begins with this line, and this comes after it:
-- the line ends with a byte that is not in it, or with the text
pub record BeginsWithLine (end : ℕ) (text line after : List ℕ) : Type 0 where
  pub plain : Contains line end → ⊥
  pub parts : (text ≡ line ++ end ∷ after) ⊎ ((text ≡ line) × (after ≡ []))

-- the text begins with these lines, one after the other, and this comes after them
abbrev pub Leads : ℕ → List ℕ → List (List ℕ) → List ℕ → Type 0
Leads end text [] rest = text ≡ rest
Leads end text (line ∷ lines) rest =
    (after : List ℕ) × (text ≢ []) × BeginsWithLine end text line after × Leads end after lines rest

-- the text is these lines, one after the other
abbrev pub AreLines : ℕ → List ℕ → List (List ℕ) → Type 0
AreLines end text lines = Leads end text lines []

-- a line of the text is not UTF-8
abbrev pub HasOddLine : ℕ → List ℕ → Type 0
HasOddLine end text =
    (front : List (List ℕ)) × (line after rest : List ℕ)
    × Leads end text front rest
    × BeginsWithLine end rest line after
    × (IsUtf8 line → ⊥)
