-- Tables of kinds.
use Rattle.std.specs.Prelude.{ℕ, ◌==◌, List, [], ◌∷◌, Option, Some, None, if◌then◌else◌}

-- a row of a table: a kind, and the item of this kind
pub record Row (X : Type 0) : Type 0 where
  pub kind : ℕ
  pub item : X

-- the item of the first row that has the kind
abbrev pub find : {X : Type 0} → List (Row X) → ℕ → Option X
find [] kind = None
find (r ∷ rs) kind = if kind == r.kind then Some r.item else find rs kind
