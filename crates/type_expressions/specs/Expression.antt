-- The expression of a type: one line of text that depends on nothing but the type.
use Rattle.std.specs.Prelude.{ℕ, zero, suc, ◌≡◌, ◌-◌, ◌<◌, ◌≤◌, ◌==◌, ◌⊎◌, if◌then◌else◌, List, [], ◌∷◌, codes}
use Rattle.std.specs.List.{AllByRecursion}
use Rattle.cv_leaves.specs.Checks.{body_of, places_of}
use Rattle.type_trees.specs.Tree.{Tree, Branches, tree, no_branch, simple, branch, IsTreeAt}
use Rattle.tpi_records.specs.Header.{first_index}
use Rattle.type_expressions.specs.Field.{number_in}
use Rattle.type_expressions.specs.Simple.{simple_words}
use Rattle.type_expressions.specs.Told.{told, nothing_words}

-- which of the places this one is: how many there are before it
unfoldable pub position_of : ℕ → List ℕ → ℕ
position_of place [] = 0
position_of place (p ∷ ps) = if p == place then 0 else suc (position_of place ps)

unfoldable mutual
  -- the words of a type, where each branch is told to a depth that is one less;
  -- two points at the depth 0
  pub expression : ℕ → Tree → List ℕ
  expression zero (tree b bs) = codes ".."
  expression (suc deep) (tree b bs) =
      told b (λ place. branch_text (nothing_words b) deep bs (position_of place (places_of b)))

  -- the words of the branch at a position, where `nothing` stands for no type
  pub branch_text : List ℕ → ℕ → Branches → ℕ → List ℕ
  branch_text nothing deep no_branch i = []
  branch_text nothing deep (simple n bs) zero = simple_words nothing n
  branch_text nothing deep (simple n bs) (suc i) = branch_text nothing deep bs i
  branch_text nothing deep (branch t bs) zero = expression deep t
  branch_text nothing deep (branch t bs) (suc i) = branch_text nothing deep bs i

-- these are the words of what a reference names, where `nothing` stands for no type: those of a
-- simple type, or those of the tree of a record
abbrev pub IsNamed : List ℕ → List (List ℕ) → ℕ → ℕ → List ℕ → Type 0
IsNamed nothing records deep to words =
    ((to < first_index) × (words ≡ simple_words nothing to))
    ⊎ ((first_index ≤ to) × (t : Tree) × IsTreeAt records (to - first_index) t
    × (words ≡ expression deep t))

-- these are the words of what a reference names
abbrev pub IsTold : List (List ℕ) → ℕ → ℕ → List ℕ → Type 0
IsTold = IsNamed (codes "no type")

-- these are the words of what the record names at each of its places
abbrev pub AreToldAt : List (List ℕ) → ℕ → List ℕ → (ℕ → List ℕ) → Type 0
AreToldAt records deep r at =
    AllByRecursion
    (λ p. IsNamed (nothing_words r) records deep (number_in 4 (body_of r) p) (at p))
    (places_of r)
