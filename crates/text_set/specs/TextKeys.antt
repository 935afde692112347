-- The keys of texts: a number for each text, by which it is found.
use Rattle.std.specs.Prelude.{ℕ, ◌≡◌, ◌+◌, ◌%◌, ◌^◌, ◌<◌, List, [], ◌∷◌, ◌++◌, length, get_or, nat_eq}
use Rattle.std.specs.List.{Contains, IsDistinct}

-- the number that is tried after `count` others: the numbers rise from the hash on,
-- and 0 follows the greatest
abbrev pub nth_try : ℕ → ℕ → ℕ
nth_try hash count = (hash + count) % 2 ^ 32

-- a position below `end` has this number as its key
abbrev pub IsTaken : List ℕ → ℕ → ℕ → Type 0
IsTaken keys end number = (k : ℕ) × (k < end) × (get_or keys k 0 ≡ number)

-- the key is a number that is tried for this hash,
-- and all numbers before it are keys of positions below `end`
pub record IsFirstFree (keys : List ℕ) (end hash key : ℕ) : Type 0 where
  pub clashes : ℕ
  pub is : key ≡ nth_try hash clashes
  pub taken : (i : ℕ) → i < clashes → IsTaken keys end (nth_try hash i)

-- each text has a key of its own, the first that was free when it came,
-- where h gives the hash of a text
pub record HaveKeys (h : List ℕ → ℕ) (texts : List (List ℕ)) (keys : List ℕ) : Type 0 where
  pub each : length keys ≡ length texts
  pub few : length keys < 2 ^ 31
  pub distinct : IsDistinct nat_eq keys
  pub first_free :
      (k : ℕ) → k < length keys → IsFirstFree keys k (h (get_or texts k [])) (get_or keys k 0)

-- each text has a key of its own; if one of them is this text,
-- its key is the first that was free for its hash
pub record LeadTo (texts : List (List ℕ)) (keys : List ℕ) (text : List ℕ) (hash : ℕ) : Type 0 where
  pub each : length keys ≡ length texts
  pub distinct : IsDistinct nat_eq keys
  pub first_free :
      (k : ℕ) → k < length texts
      → get_or texts k [] ≡ text
      → IsFirstFree keys k hash (get_or keys k 0)

-- the text isn't there, and its key comes after the others
pub record AddsKey (texts : List (List ℕ)) (text : List ℕ) (hash : ℕ) (keys after : List ℕ)
    : Type 0 where
  pub absent : Contains texts text → ⊥
  pub key : ℕ
  pub last : after ≡ keys ++ key ∷ []
  pub distinct : IsDistinct nat_eq after
  pub first_free : IsFirstFree keys (length keys) hash key
