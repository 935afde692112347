-- A name that has to be there, and its check.
use Rattle.std.proofs.Common.{◌≡◌, ◌<◌, ◌≤◌, ◌+◌, ℕ, List, inl, inr, Some, None, length, take, drop, refl, ap, arith}
use Rattle.std.specs.Prelude.{nat_lt}
use Rattle.std.proofs.lemmas.List.{length-take, length-drop}
use Rattle.std.proofs.lemmas.Bool.{cases_Bool, ltb-true}
use Rattle.std.specs.Prelude.{Option}
use Rattle.std.specs.Option.{option_map_or}
use Rattle.byte_fields.specs.Check.{first_failing}
use Rattle.byte_fields.specs.Name.{name_at, name_len, has_name}
use Rattle.cv_leaves.specs.declared.fault.LeafFault.TheVariants as fault
use Rattle.cv_leaves.specs.Checks.{kind_of, body_of}
use Rattle.cv_leaves.specs.Leaf.{Leaf, leaf_of}
use Rattle.cv_leaves.specs.Name.{name_in, rest_in, from_name, name_of}
use Rattle.cv_leaves.specs.Numeric.{has_numeric}
use Rattle.cv_leaves.specs.declared.leaf.NamePlace.{NamePlace}
use Rattle.cv_leaves.specs.declared.leaf.NamePlace.TheVariants.{Unnamed, At, AfterNumeric}
use Rattle.cv_leaves.specs.Terminated.{name_end, name_checks}
use Rattle.cv_leaves.proofs.TestLaws.{chosen, not_chosen}

-- a name that was found has its NUL after it, within the body
pub name_ends : (body name : List ℕ) (at : ℕ) → name_at body at ≡ Some name → at ≤ length body → (name_end body at ≡ at + length name + 1) × (at + length name + 1 ≤ length body)
unfolding name_at has_name name_end
name_ends body name at is inside =
    let len = name_len (drop at body) in
    let p = chosen (nat_lt len (length (drop at body))) (take len (drop at body)) name is in
    let below : len < length (drop at body) = ltb-true len (length (drop at body)) p.0 in
    let long : len ≡ length name = omega (arith, ap length p.1, length-take len (drop at body), below) in
    rw long (refl, omega (arith, below, long, length-drop at body))

-- its check holds
pub name_holds : (body name : List ℕ) (at : ℕ) → name_at body at ≡ Some name → first_failing (name_checks body at) ≡ None
unfolding name_at
name_holds body name at is = rw ((chosen (has_name body at) (take (name_len (drop at body)) (drop at body)) name is).0) refl

-- where no name is found, its check fails
pub name_fails : (body : List ℕ) (at : ℕ) → name_at body at ≡ None → first_failing (name_checks body at) ≡ Some (fault.Name at)
unfolding name_at
name_fails body at is = rw (not_chosen (has_name body at) (take (name_len (drop at body)) (drop at body)) is) refl

-- the name in a body is that at the head of the bytes from where it begins
pub name_in_rest : (naming : NamePlace) (body : List ℕ) → name_in naming body ≡ option_map_or (λ rest. name_at rest 0) (rest_in naming body) None
unfolding name_in rest_in name_at has_name
name_in_rest Unnamed body = refl
name_in_rest (At k) body = refl
name_in_rest (AfterNumeric k) body = elim (cases_Bool (has_numeric body k)) [
  | inl here ↦ rw here refl
  | inr none ↦ rw none refl
]

name_of_leaf : (leaf : Option Leaf) (body : List ℕ) → option_map_or (λ l. name_in l.naming body) leaf None ≡ option_map_or (λ rest. name_at rest 0) (option_map_or (λ l. rest_in l.naming body) leaf None) None
name_of_leaf None body = refl
name_of_leaf (Some l) body = name_in_rest l.naming body

-- the name of a type is that at the head of the bytes from where it begins
pub name_of_is : (r : List ℕ) → name_of r ≡ option_map_or (λ rest. name_at rest 0) (from_name r) None
unfolding name_of from_name
name_of_is r = name_of_leaf (leaf_of (kind_of r)) (body_of r)
