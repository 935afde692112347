-- Tests, what they choose, and tables whose rows pass one.
use Rattle.std.proofs.Common.{◌≡◌, Bool, true, false, cond, ℕ, List, [], ◌∷◌, Option, Some, None, refl}
use Rattle.std.specs.Prelude.{◌==◌, ◌&&◌}
use Rattle.std.proofs.lemmas.Bool.{eqb-true}
use Rattle.cv_leaves.specs.Table.{Row, find}

-- where both hold, each holds
pub and_both : (a b : Bool) → (a && b) ≡ true → (a ≡ true) × (b ≡ true)
and_both true b e = (refl, e)
and_both false b e = absurd cc

-- if something is chosen, the test holds, and it is what the test chooses
pub chosen : {X : Type 0} (b : Bool) (x y : X) → cond b (Some x) None ≡ Some y → (b ≡ true) × (x ≡ y)
chosen true x y is = (refl, cc)
chosen false x y is = absurd cc

-- if nothing is chosen, the test doesn't hold
pub not_chosen : {X : Type 0} (b : Bool) (x : X) → cond b (Some x) None ≡ None → b ≡ false
not_chosen true x is = absurd cc
not_chosen false x is = refl

-- each row of a table passes a test
abbrev pub each_row : {X : Type 0} → (ℕ → X → Bool) → List (Row X) → Bool
each_row test [] = true
each_row test (r ∷ rs) = test r.kind r.item && each_row test rs

-- what is found is in the first row, or in one of the others
found_first : {X : Type 0} (test : ℕ → X → Bool) (b : Bool) (kind k : ℕ) (x : X) (others : Option X) (found : X) → (b ≡ true → kind ≡ k) → test k x ≡ true
    → (others ≡ Some found → test kind found ≡ true) → cond b (Some x) others ≡ Some found → test kind found ≡ true
found_first test true kind k x others found same here later is =
    let item : x ≡ found = cc in
    let one : kind ≡ k = same refl in
    rw (one, ← item) here
found_first test false kind k x others found same here later is = later is

-- so what is found passes it
pub found_passes : {X : Type 0} (test : ℕ → X → Bool) (rows : List (Row X)) (kind : ℕ) (found : X) → each_row test rows ≡ true → find rows kind ≡ Some found → test kind found ≡ true
found_passes test [] kind found each is = absurd cc
found_passes test (r ∷ rs) kind found each is =
    let both = and_both (test r.kind r.item) (each_row test rs) each in
    found_first test (kind == r.kind) kind r.kind r.item (find rs kind) found (λ e. eqb-true kind r.kind e) both.0 (λ later. found_passes test rs kind found both.1 later) is
