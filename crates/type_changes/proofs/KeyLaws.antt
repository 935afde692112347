-- What a definition is known by is a function of its tree.
use Rattle.std.proofs.Common.{◌≡◌, ◌≤◌, ◌+◌, ℕ, Bool, true, false, List, [], ◌∷◌, if◌then◌else◌, length, drop, refl, arith, inl, inr}
use Rattle.std.specs.Prelude.{Option, Some, None, IfSome, nat_le, nat_lt, ◌<◌}
use Rattle.std.proofs.lemmas.Bool.{leb-true}
use Rattle.cv_leaves.proofs.TestLaws.{and_both}
use Rattle.std.specs.List.{AllByRecursion}
use Rattle.std.specs.Option.{option_map_or}
use Rattle.byte_fields.specs.Name.{name_at}
use Rattle.byte_fields.specs.Number.{number_at}
use Rattle.cv_leaves.specs.Checks.{body_of, places_of}
use Rattle.cv_leaves.specs.Name.{name_of}
use Rattle.cv_leaves.specs.Numeric.{has_numeric, numeric_end, numeric_len}
use Rattle.cv_leaves.specs.Place.{IsChecked}
use Rattle.cv_leaves.specs.References.{blanked}
use Rattle.cv_leaves.proofs.FilledLaws.{blanked_kind, blanked_len}
use Rattle.type_expressions.proofs.BlankLaws.{body_len, name_same, same_named, same_rest}
use Rattle.type_expressions.proofs.DefinitionLaws.{Defines, properties_same}
use Rattle.type_changes.specs.Definition.{behind_numeric, has_unique_name, key_of, known_by, name_place, unique_name}

-- a record and its blank have the same bytes from here on
abbrev IsBehind : ℕ → List ℕ → Type 0
IsBehind k r = AllByRecursion (λ p. 4 + p + 4 ≤ 4 + k) (places_of r)

further : (k more : ℕ) (ps : List ℕ) → AllByRecursion (λ p. 4 + p + 4 ≤ 4 + k) ps → AllByRecursion (λ p. 4 + p + 4 ≤ 4 + (k + more)) ps
further k more [] each = tt
further k more (p ∷ ps) each = (omega (arith, each.0), further k more ps each.1)

numeric_kept : (x y : List ℕ) (k : ℕ) → length x ≡ length y → drop k x ≡ drop k y → behind_numeric x k ≡ behind_numeric y k
unfolding has_numeric numeric_end number_at
numeric_kept x y k len same = rw (len, same) refl

-- a numeric leaf ends inside its body
pub near_end : (body : List ℕ) (k : ℕ) (o : Option ℕ) → o ≡ behind_numeric body k → length body < 131072 → IfSome o (λ at. at < 262144)
unfolding has_numeric
near_end body k o is short = by (has_numeric body k) refl
  where
    by : (b : Bool) → has_numeric body k ≡ b → IfSome o (λ at. at < 262144)
    by true e =
        let both = and_both (nat_le (k + 2) (length body)) _ e in
        let ends = and_both (nat_lt 0 (numeric_len (number_at 2 body k))) _ both.1 in
        rw (is, e) (omega (arith, leb-true (numeric_end body k) (length body) ends.1, short))
    by false e = rw (is, e) tt

-- the name behind the first name, where that begins behind all places
name_kept : (r : List ℕ) (k more : ℕ) → IsChecked r → IsBehind k r → name_at (body_of (blanked r)) (k + more) ≡ name_at (body_of r) (k + more)
name_kept r k more checked behind =
    name_same (body_of (blanked r)) (body_of r) (k + more) (same_rest r (k + more) checked (further k more (places_of r) behind))

-- the name behind the first name, where that stands behind a numeric leaf
behind_kept : (r : List ℕ) (k count : ℕ) → IsChecked r → IsBehind k r
    → option_map_or (λ at. name_at (body_of (blanked r)) (at + count + 1)) (behind_numeric (body_of r) k) None
    ≡ option_map_or (λ at. name_at (body_of r) (at + count + 1)) (behind_numeric (body_of r) k) None
unfolding numeric_end
behind_kept r k count checked behind = by (has_numeric (body_of r) k)
  where
    n : ℕ
    n = numeric_len (number_at 2 (body_of r) k)

    sum : k + n + count + 1 ≡ k + (n + count + 1)
    sum = omega arith

    by : (b : Bool)
        → option_map_or (λ at. name_at (body_of (blanked r)) (at + count + 1)) (if b then Some (k + n) else None) None
        ≡ option_map_or (λ at. name_at (body_of r) (at + count + 1)) (if b then Some (k + n) else None) None
    by true = rw sum (name_kept r k (n + count + 1) checked behind)
    by false = refl

unique_same : (r name : List ℕ) → IsChecked r → Defines r → unique_name (blanked r) name ≡ unique_name r name
unfolding unique_name name_place
unique_same r name checked (inl (places, a, b)) =
    let behind : IsBehind 16 r = rw places (omega arith, (omega arith, (omega arith, tt))) in
    rw (blanked_kind r checked, a, b, numeric_kept (body_of (blanked r)) (body_of r) 16 (body_len (blanked r) r (blanked_len r checked)) (same_rest r 16 checked behind))
    (behind_kept r 16 (length name) checked behind)
unique_same r name checked (inr (inl (places, kind))) =
    let behind : IsBehind 8 r = rw places (omega arith, tt) in
    rw (blanked_kind r checked, kind, numeric_kept (body_of (blanked r)) (body_of r) 8 (body_len (blanked r) r (blanked_len r checked)) (same_rest r 8 checked behind))
    (behind_kept r 8 (length name) checked behind)
unique_same r name checked (inr (inr (places, kind))) =
    let behind : IsBehind 12 r = rw places (omega arith, (omega arith, tt)) in
    let sum : 12 + length name + 1 ≡ 12 + (length name + 1) = omega arith in
    rw (blanked_kind r checked, kind, sum) (name_kept r 12 (length name + 1) checked behind)

flag_same : (r : List ℕ) → IsChecked r → Defines r → has_unique_name (blanked r) ≡ has_unique_name r
unfolding has_unique_name
flag_same r checked defined = rw (properties_same r checked defined) refl

known_same : (r : List ℕ) (name : Option (List ℕ)) → IsChecked r → Defines r → known_by (blanked r) name ≡ known_by r name
unfolding known_by
known_same r None checked defined = refl
known_same r (Some name) checked defined = rw (flag_same r checked defined, unique_same r name checked defined) refl

-- a definition and its blank are known by the same
pub key_same : (r : List ℕ) → IsChecked r → Defines r → key_of (blanked r) ≡ key_of r
unfolding key_of
key_same r checked defined = rw (blanked_kind r checked, same_named r checked, known_same r (name_of r) checked defined) refl
