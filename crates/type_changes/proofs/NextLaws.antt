-- The next of the definitions that a loop takes.
use Rattle.std.proofs.Common.{◌≡◌, ◌∙◌, ◌<◌, ◌+◌, ℕ, zero, suc, Bool, true, false, cond, List, [], ◌∷◌, ◌++◌, take, drop, map, length, get_or, refl, ap, arith, is_some, option_map}
use Rattle.std.specs.Prelude.{Option, Some, None}
use Rattle.std.proofs.lemmas.List.{drop_more, length-map}
use Rattle.std.proofs.Math.ListN.{get_or-map}
use Rattle.std.proofs.Math.Seq.{take-suc}
use Rattle.std.specs.List.{AllByRecursion}
use Rattle.type_changes.specs.Seen.{IsInside}
use Rattle.type_changes.specs.declared.place.Place.{Place}
use Rattle.type_changes.specs.declared.told.Told.{Told}

-- stands for a definition that is not there
abbrev pub nobody : Told
nobody = record {
  key = record { kind = 0; name = record { ref_ptr = (0, 0); now = [] } };
  title = record { ref_ptr = (0, 0); now = [] };
  size = record { ref_ptr = (0, 0); now = [] };
  lines = record { ref_ptr = (0, 0); now = [] };
}

-- and a place that is nowhere
abbrev pub nowhere : Place
nowhere = record { kind = 0; name = 0; start = 0; parts = record { size = 0; head = 0; lines = 0 }; end = 0 }

module _ {A B : Type 0} (f : A → B) (d : A) (xs : List A) (k : ℕ) (below : k < length xs) where
  inside : k < length (map f xs)
  inside = omega (arith, below, length-map xs f)

  -- what is left begins with the next
  pub next_left : drop k (map f xs) ≡ f (get_or xs k d) ∷ drop (k + 1) (map f xs)
  next_left = drop_more (map f xs) k (f d) inside ∙ ap (λ y. y ∷ drop (k + 1) (map f xs)) (get_or-map f xs k d)

  -- and what was taken ends with it then
  pub next_taken : take (k + 1) (map f xs) ≡ take k (map f xs) ++ f (get_or xs k d) ∷ []
  next_taken =
      let next : k + 1 ≡ suc k = omega arith in
      ap (λ n. take n (map f xs)) next ∙ take-suc (map f xs) k (f d) inside ∙ ap (λ y. take k (map f xs) ++ y ∷ []) (get_or-map f xs k d)

-- ---- what may be there

pub mapped_some : {A B : Type 0} (f : A → B) (o : Option A) → is_some (option_map f o) ≡ is_some o
mapped_some f None = refl
mapped_some f (Some x) = refl

pub mapped_choice : {A B : Type 0} (f : A → B) (b : Bool) (x : A) (o : Option A) → option_map f (cond b (Some x) o) ≡ cond b (Some (f x)) (option_map f o)
mapped_choice f true x o = refl
mapped_choice f false x o = refl

-- ---- what holds of each place

pub at_all : (many : ℕ) (places : List Place) (k : ℕ) → k < length places → AllByRecursion (IsInside many) places → IsInside many (get_or places k nowhere)
at_all many [] k below each = absurd (omega (arith, below))
at_all many (p ∷ ps) zero below each = each.0
at_all many (p ∷ ps) (suc k) below each = at_all many ps k (omega (arith, below)) each.1
