-- Names in the string buffer.
use Rattle.std.proofs.Common.{◌≡◌, ℕ, zero, suc, ◌<◌, Bool, true, false, List, [], ◌∷◌, length, get_or, refl, arith}
use Rattle.std.specs.Prelude.{◌||◌}
use Rattle.std.specs.List.{list_any}

-- a test that an element passes
pub one_passes : (p : ℕ → Bool) (xs : List ℕ) (k : ℕ) → k < length xs → p (get_or xs k 0) ≡ true → list_any p xs ≡ true
one_passes p [] k lt passes = absurd (omega arith)
one_passes p (x ∷ xs) zero lt passes = rw passes refl
one_passes p (x ∷ xs) (suc k) lt passes = rw (one_passes p xs k (omega arith) passes) (elim (p x) as (λ b. (b || true) ≡ true) [ true ↦ refl | false ↦ refl ])
