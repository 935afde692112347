-- Checks that are made one after the other.
use Rattle.std.proofs.Common.{◌≡◌, ℕ, zero, suc, ◌+◌, ◌-◌, ◌<◌, Bool, true, false, cond, List, [], ◌∷◌, ◌++◌, Option, Some, None, refl, ◌∙◌, arith, add-one, inl, inr}
use Rattle.std.proofs.lemmas.Bool.{cases_lt}
use Rattle.byte_fields.specs.Check.{Check, first_failing, checks_below}

skips : {F : Type 0} (b : Bool) (f : F) (r s rest : Option F) → (r ≡ None → s ≡ rest) → cond b r (Some f) ≡ None → cond b s (Some f) ≡ rest
skips true f r s rest h e = h e
skips false f r s rest h e = absurd cc

stays : {F : Type 0} (b : Bool) (f g : F) (r s : Option F) → (r ≡ Some g → s ≡ Some g) → cond b r (Some f) ≡ Some g → cond b s (Some f) ≡ Some g
stays true f g r s h e = h e
stays false f g r s h e = e

-- if the first checks hold, the first fault is that of the checks after them
pub first_failing-append_none : {F : Type 0} (front back : List (Check F)) → first_failing front ≡ None → first_failing (front ++ back) ≡ first_failing back
first_failing-append_none [] back e = refl
first_failing-append_none (c ∷ cs) back e = skips c.holds c.fault (first_failing cs) (first_failing (cs ++ back)) (first_failing back) (first_failing-append_none cs back) e

-- if one of the first checks fails, the checks after them do not matter
pub first_failing-append_some : {F : Type 0} (front back : List (Check F)) (f : F) → first_failing front ≡ Some f → first_failing (front ++ back) ≡ Some f
first_failing-append_some [] back f e = absurd cc
first_failing-append_some (c ∷ cs) back f e = stays c.holds c.fault f (first_failing cs) (first_failing (cs ++ back)) (first_failing-append_some cs back f) e

-- the first fault of one check that fails
pub check_fails : {F : Type 0} (b : Bool) (f g : F) → b ≡ false → f ≡ g → first_failing (record { holds = b; fault = f } ∷ []) ≡ Some g
check_fails b f g e same = rw (e, same) refl

-- one check that holds has no fault
pub check_holds : {F : Type 0} (b : Bool) (f : F) → b ≡ true → first_failing (record { holds = b; fault = f } ∷ []) ≡ None
check_holds b f e = rw e refl

-- if the checks below i hold, and those of i hold, then the checks below i + 1 hold
pub checks_below-more : {F : Type 0} (checks : ℕ → List (Check F)) (i : ℕ) → first_failing (checks_below i checks) ≡ None → first_failing (checks i) ≡ None → first_failing (checks_below (i + 1) checks) ≡ None
checks_below-more checks i below here = rw add-one (first_failing-append_none (checks_below i checks) (checks i) below ∙ here)

-- the first fault below k is the first fault below n + k
checks_below-longer : {F : Type 0} (checks : ℕ → List (Check F)) (k n : ℕ) (f : F) → first_failing (checks_below k checks) ≡ Some f → first_failing (checks_below (n + k) checks) ≡ Some f
checks_below-longer checks k zero f e = let none : 0 + k ≡ k = omega arith in rw none e
checks_below-longer checks k (suc n) f e =
    let one : suc n + k ≡ suc (n + k) = omega arith in
    rw one (first_failing-append_some (checks_below (n + k) checks) (checks (n + k)) f (checks_below-longer checks k n f e))

-- if the checks below i hold, and a check of i fails, its fault is the first one
pub checks_below-stop : {F : Type 0} (checks : ℕ → List (Check F)) (i n : ℕ) (f : F) → first_failing (checks_below i checks) ≡ None → first_failing (checks i) ≡ Some f → i < n → first_failing (checks_below n checks) ≡ Some f
checks_below-stop checks i n f below here lt =
    let here' : first_failing (checks_below (suc i) checks) ≡ Some f = first_failing-append_none (checks_below i checks) (checks i) below ∙ here in
    let k : n ≡ (n - suc i) + suc i = omega arith in
    rw k (checks_below-longer checks (suc i) (n - suc i) f here')

none_front : {F : Type 0} (b : Bool) (f : F) (r : Option F) → cond b r (Some f) ≡ None → (b ≡ true) × (r ≡ None)
none_front true f r e = (refl, e)
none_front false f r e = absurd cc

-- a single check without a fault holds
pub check_held : {F : Type 0} (b : Bool) (f : F) → first_failing (record { holds = b; fault = f } ∷ []) ≡ None → b ≡ true
check_held b f e = (none_front b f None e).0

-- if all checks hold, then the first ones hold, and so do the others
pub first_failing-parts : {F : Type 0} (front back : List (Check F)) → first_failing (front ++ back) ≡ None → (first_failing front ≡ None) × (first_failing back ≡ None)
first_failing-parts [] back e = (refl, e)
first_failing-parts (c ∷ cs) back e =
    let p = none_front c.holds c.fault (first_failing (cs ++ back)) e in
    let q = first_failing-parts cs back p.1 in
    (rw p.0 q.0, q.1)

-- if the checks below n hold, then the checks of each number below n hold
pub checks_below-each : {F : Type 0} (checks : ℕ → List (Check F)) (n k : ℕ) → first_failing (checks_below n checks) ≡ None → k < n → first_failing (checks k) ≡ None
checks_below-each checks zero k e lt = absurd (omega arith)
checks_below-each checks (suc n) k e lt =
    let p = first_failing-parts (checks_below n checks) (checks n) e in
    elim (cases_lt k n) [
      | inl below ↦ checks_below-each checks n k p.0 below
      | inr from ↦ let same : k ≡ n = omega arith in rw same p.1
    ]

-- if the checks of each number below n hold, then the checks below n hold
pub checks_below-all : {F : Type 0} (checks : ℕ → List (Check F)) (n : ℕ) → ((k : ℕ) → k < n → first_failing (checks k) ≡ None) → first_failing (checks_below n checks) ≡ None
checks_below-all checks zero each = refl
checks_below-all checks (suc n) each =
    first_failing-append_none (checks_below n checks) (checks n) (checks_below-all checks n (λ k lt. each k (omega arith))) ∙ each n (omega arith)
