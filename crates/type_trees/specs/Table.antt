-- Tables: distinct records, each of which names only earlier records.
use Rattle.std.specs.Prelude.{ℕ, ◌≢◌, ◌+◌, ◌-◌, ◌^◌, ◌<◌, ◌⊎◌, ◌↔◌, nat_lt, if◌then◌else◌, List, [], ◌∷◌, length, get_or}
use Rattle.std.specs.List.{AllByRecursion, AllPairs, Contains}
use Rattle.byte_fields.specs.Bytes.{AreBytes}
use Rattle.cv_leaves.specs.References.{references, filled}
use Rattle.cv_leaves.specs.Place.{IsChecked}
use Rattle.type_trees.specs.Tree.{Tree, IsType, IsRanked}
use Rattle.tpi_records.specs.Records.{IsRecord}
use Rattle.tpi_records.specs.Header.{first_index}

-- each record has its framing and its places
pub record AreGood (r : List (List ℕ)) : Type 0 where
  pub framed : (i : ℕ) → i < length r → IsRecord (get_or r i [])
  pub checked : (i : ℕ) → i < length r → IsChecked (get_or r i [])

-- r is a table: its records are good, made of bytes and distinct,
-- and each names only earlier records
pub record IsTable (r : List (List ℕ)) : Type 0 where
  pub good : AreGood r
  pub bytes : (i : ℕ) → i < length r → AreBytes (get_or r i [])
  pub lower : IsRanked r (λ i. i)
  pub distinct : AllPairs (λ x y. x ≢ y) r

-- the new number for n:
-- a simple number stays, and the number of position k becomes that of position f k
unfoldable pub renumber_one : (ℕ → ℕ) → ℕ → ℕ
renumber_one f n = if nat_lt n first_index then n else first_index + f (n - first_index)

-- the new numbers for all of these
unfoldable pub renumber : (ℕ → ℕ) → List ℕ → List ℕ
renumber f [] = []
renumber f (n ∷ ns) = renumber_one f n ∷ renumber f ns

-- the record x with the new number for each of its references
unfoldable pub renumbered : (ℕ → ℕ) → List ℕ → List ℕ
renumbered f x = filled x (renumber f (references x))

-- n is simple, or it names a position that has a number below 2^31
abbrev pub IsNumbered : List ℕ → ℕ → Type 0
IsNumbered numbers n =
    (n < first_index)
    ⊎ ((n - first_index < length numbers) × (get_or numbers (n - first_index) 0 < 2 ^ 31))

-- each of ns is simple, or it names a position that has a number below 2^31
abbrev pub AreNumbered : List ℕ → List ℕ → Type 0
AreNumbered numbers ns = AllByRecursion (IsNumbered numbers) ns

-- the trees of l are the types of r and those of s, each once
pub record IsUnion (l : List Tree) (r s : List (List ℕ)) : Type 0 where
  pub distinct : AllPairs (λ t u. t ≢ u) l
  pub members : (t : Tree) → Contains l t ↔ (IsType r t ⊎ IsType s t)
