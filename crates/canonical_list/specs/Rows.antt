-- How the records of a level continue a canonical list, once they are renumbered and sorted.
use Rattle.std.specs.Prelude.{ℕ, zero, suc, ◌≡◌, ◌≢◌, ◌+◌, ◌*◌, ◌^◌, ◌<◌, ◌≤◌, List, [], ◌∷◌, length, map, drop, get_or}
use Rattle.std.specs.Cmp.Lexicographic.{slice_cmp}
use Rattle.std.specs.List.{All, Contains}
use Rattle.std.specs.Ordering.{nat_cmp}
use Rattle.std.specs.declared.cmp.Ordering.TheVariants.{Greater}
use Rattle.byte_fields.specs.Bytes.{AreBytes}
use Rattle.type_trees.specs.Table.{renumbered}
use Rattle.canonical_list.specs.declared.row.Row.{Row}

-- the row of the record at i: the record, renumbered by f
unfoldable pub row : List (List ℕ) → (ℕ → ℕ) → ℕ → List ℕ
row r f i = renumbered f (get_or r i [])

-- the first n bytes of x as one number, the first of them the highest; a missing byte is 0
unfoldable pub first_bytes : ℕ → List ℕ → ℕ
first_bytes n [] = 0
first_bytes zero (b ∷ x) = 0
first_bytes (suc n) (b ∷ x) = b * 256 ^ n + first_bytes n x

-- the head of a row at an offset: the 8 bytes from there on as one number
unfoldable pub head : ℕ → List ℕ → ℕ
head from x = first_bytes 8 (drop from x)

-- at this offset, h is the head of x, which is made of bytes
pub record HasHead (from h : ℕ) (x : List ℕ) : Type 0 where
  pub is_head : h ≡ head from x
  pub bytes : AreBytes x

-- the rows from start up to end have one head, and the row at end, if there is one, has another
pub record IsStretch (run : List Row) (start end : ℕ) : Type 0 where
  pub after : start < end
  pub within : end ≤ length run
  pub tied :
      (k : ℕ) (d : Row) → start ≤ k → k < end
      → (get_or run k d).head ≡ (get_or run start d).head
  pub last : (d : Row) → end < length run → (get_or run end d).head ≢ (get_or run start d).head

-- the positions of the records of these rows
abbrev pub positions : List Row → List ℕ
positions ps = map (λ p. p.position) ps

-- the bytes of these rows, where r has those of all records
abbrev pub row_bytes : List (List ℕ) → List Row → List (List ℕ)
row_bytes r ps = map (λ p. get_or r p.position []) ps

-- at this offset, each row has the head of its bytes
abbrev pub HaveHeads : ℕ → List (List ℕ) → List Row → Type 0
HaveHeads from r ps = All (λ p. HasHead from p.head (get_or r p.position [])) ps

-- the first `from` bytes of all xs make the same number
abbrev pub AreAlike : ℕ → List (List ℕ) → Type 0
AreAlike from xs =
    (x y : List ℕ) → Contains xs x → Contains xs y → first_bytes from x ≡ first_bytes from y

-- no x comes after the next one in the order of bytes
abbrev pub AreInOrder : List (List ℕ) → Type 0
AreInOrder xs =
    (k : ℕ) → k + 1 < length xs
    → slice_cmp nat_cmp (get_or xs k []) (get_or xs (k + 1) []) ≢ Greater
