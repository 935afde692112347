-- Distinct texts, in the order in which they arrived.
use Rattle.std.specs.Prelude.{ℕ, ◌≡◌, ◌≢◌, ◌<◌, ◌≤◌, ◌⊎◌, List, [], ◌∷◌, ◌++◌, length, get_or}
use Rattle.std.specs.List.{AllPairs, Contains}
use Rattle.text_set.specs.TextKeys.{AddsKey}

-- no two texts are equal, and each has at least four bytes
pub record AreDistinct (texts : List (List ℕ)) : Type 0 where
  pub distinct : AllPairs (λ x y. x ≢ y) texts
  pub long : (k : ℕ) → k < length texts → 4 ≤ length (get_or texts k [])

-- the texts stay as they were, or this text is new and comes after them
abbrev pub Holds : List (List ℕ) → List (List ℕ) → List ℕ → Type 0
Holds before after text =
    (after ≡ before) ⊎ ((after ≡ before ++ text ∷ []) × (Contains before text → ⊥))

-- one of the texts that P says is at k in the texts `after`,
-- which have at most this one text more than `before`
pub record IsInterned (P : List ℕ → Type 0) (before after : List (List ℕ)) (k : ℕ) : Type 0 where
  pub text : List ℕ
  pub made : P text
  pub inside : k < length after
  pub at : get_or after k [] ≡ text
  pub holds : Holds before after text

-- the text is the one at k, and the keys stay as they were; or it is new,
-- and k comes after the texts, and its key after theirs
abbrev pub IsKeyed : List (List ℕ) → List ℕ → ℕ → List ℕ → List ℕ → ℕ → Type 0
IsKeyed texts text hash keys keys_after k =
    ((k < length texts) × (get_or texts k [] ≡ text) × (keys_after ≡ keys))
    ⊎ ((k ≡ length texts) × AddsKey texts text hash keys keys_after)
