-- Names that are noted, one record after the other.
use Rattle.std.proofs.Common.{◌≡◌, ◌<◌, ◌+◌, ◌⊎◌, ℕ, Bool, true, false, cond, List, [], ◌∷◌, ◌++◌, subst, sym, arith, inl, inr, eq-or-lt_of_le}
use Rattle.std.specs.Prelude.{nat_eq}
use Rattle.std.specs.List.{Contains, list_any}
use Rattle.std.proofs.lemmas.List.Elements.{Contains-append_left}
use Rattle.indexmap.specs.IndexSet.{insert_key}

-- what was noted stays
pub kept_insert : (names : List ℕ) (one n : ℕ) → Contains names n → Contains (insert_key nat_eq names one) n
kept_insert names one n is = by (list_any (nat_eq one) names)
  where
    by : (b : Bool) → Contains (cond b names (names ++ one ∷ [])) n
    by true = is
    by false = Contains-append_left names (one ∷ []) n is

-- what holds below a number and at it holds below the next
pub next_holds : (P : ℕ → Type 0) (k : ℕ) → ((i : ℕ) → i < k → P i) → P k → (i : ℕ) → i < k + 1 → P i
next_holds P k lower here i below = by (eq-or-lt_of_le {n = i} {m = k} (omega (arith, below)))
  where
    by : (i ≡ k) ⊎ (i < k) → P i
    by (inl same) = subst P (sym same) here
    by (inr less) = lower i less
