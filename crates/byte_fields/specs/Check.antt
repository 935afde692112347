-- Checks in the order in which they are made, and the first one that fails.
use Rattle.std.specs.Prelude.{ℕ, zero, suc, ◌≡◌, ◌⊎◌, Bool, List, [], ◌∷◌, ◌++◌, Option, Some, None, Result, Ok, Err, if◌then◌else◌}

-- a check: whether it holds, and the fault if it fails
pub record Check (F : Type 0) : Type 0 where
  pub holds : Bool
  pub fault : F

-- the fault of the first check that fails; None if all checks hold
abbrev pub first_failing : {F : Type 0} → List (Check F) → Option F
first_failing [] = None
first_failing (check ∷ checks) = if check.holds then first_failing checks else Some check.fault

-- the checks of 0, then the checks of 1, and so on, for each number below n
abbrev pub checks_below : {F : Type 0} → ℕ → (ℕ → List (Check F)) → List (Check F)
checks_below zero checks = []
checks_below (suc n) checks = checks_below n checks ++ checks n

-- the result is Ok if all these checks hold, and otherwise the fault of the first check that fails
abbrev pub Makes : {A F : Type 0} → Result A F → List (Check F) → Type 0
Makes (Ok value) checks = first_failing checks ≡ None
Makes (Err fault) checks = first_failing checks ≡ Some fault

-- the fault is that of the first check that fails, or out of memory if no check fails
abbrev pub Refuses : {F : Type 0} → F → Option F → F → Type 0
Refuses memory first fault = (first ≡ Some fault) ⊎ ((fault ≡ memory) × (first ≡ None))
