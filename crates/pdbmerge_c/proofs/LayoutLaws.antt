-- The streams of a layout, one after the other.
use Rattle.std.proofs.Common.{◌≡◌, ℕ, zero, suc, ◌+◌, ◌<◌, ◌++◌, ◌∷◌, [], List, length, take, map, refl, sym, ap, ◌∙◌, arith, append_assoc}
use Rattle.std.specs.Prelude.{unwrap_or, option_map}
use Rattle.std.specs.List.{flat_map, slice_get}
use Rattle.std.proofs.lemmas.List.{append-nil}

-- the value of one element more
pub value_more : {X Y : Type 0} (f : X → Y) (d : Y) (xs : List X) (k : ℕ) → k < length xs → map f (take (k + 1) xs) ≡ map f (take k xs) ++ unwrap_or (option_map f (slice_get xs k)) d ∷ []
value_more f d [] k inside = absurd (omega (arith, inside))
value_more f d (x ∷ xs) zero inside = refl
value_more {Y = Y} f d (x ∷ xs) (suc k) inside =
    let one : suc k + 1 ≡ suc (k + 1) = omega arith in
    rw one (ap (λ (rest : List Y). f x ∷ rest) (value_more f d xs k (omega (arith, inside))))

-- the list of one element more
pub list_more : {X Y : Type 0} (f : X → List Y) (xs : List X) (k : ℕ) → k < length xs → flat_map f (take (k + 1) xs) ≡ flat_map f (take k xs) ++ unwrap_or (option_map f (slice_get xs k)) []
list_more f [] k inside = absurd (omega (arith, inside))
list_more f (x ∷ xs) zero inside = append-nil (f x)
list_more {Y = Y} f (x ∷ xs) (suc k) inside =
    let one : suc k + 1 ≡ suc (k + 1) = omega arith in
    rw one (ap (λ (rest : List Y). f x ++ rest) (list_more f xs k (omega (arith, inside))) ∙ sym (append_assoc (f x) (flat_map f (take k xs)) (unwrap_or (option_map f (slice_get xs k)) [])))
