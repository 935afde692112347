-- One numeric leaf, and several one after the other.
use Rattle.std.proofs.Common.{◌≡◌, ◌<◌, ◌≤◌, ◌+◌, ◌-◌, true, cond, ℕ, zero, suc, List, Some, None, length, refl, arith}
use Rattle.std.specs.Prelude.{◌&&◌, nat_le, nat_lt}
use Rattle.std.proofs.lemmas.Bool.{leb-true, ltb-true}
use Rattle.byte_fields.specs.Number.{number_at}
use Rattle.byte_fields.specs.Check.{first_failing}
use Rattle.byte_fields.proofs.CheckLaws.{first_failing-append_none, first_failing-append_some}
use Rattle.cv_leaves.specs.Numeric.{numeric_len, numeric_end, has_numeric, numeric_checks, numerics_end, numerics_checks}
use Rattle.cv_leaves.proofs.TestLaws.{and_both, chosen}
use Rattle.cv_leaves.specs.declared.fault.LeafFault.{LeafFault}

-- ---- one

-- a numeric leaf at an offset is known and fits
pub numeric_inside : (body : List ℕ) (at : ℕ) → has_numeric body at ≡ true → (at + 2 ≤ length body) × (0 < numeric_len (number_at 2 body at)) × (numeric_end body at ≤ length body)
unfolding has_numeric
numeric_inside body at has =
    let len = numeric_len (number_at 2 body at) in
    let first = and_both (nat_le (at + 2) (length body)) (nat_lt 0 len && nat_le (numeric_end body at) (length body)) has in
    let others = and_both (nat_lt 0 len) (nat_le (numeric_end body at) (length body)) first.1 in
    (leb-true (at + 2) (length body) first.0, ltb-true 0 len others.0, leb-true (numeric_end body at) (length body) others.1)

-- a numeric leaf that was found is there
pub numeric_found : (body : List ℕ) (at end : ℕ) → cond (has_numeric body at) (Some (numeric_end body at)) None ≡ Some end → (has_numeric body at ≡ true) × (numeric_end body at ≡ end)
numeric_found body at end is = chosen (has_numeric body at) (numeric_end body at) end is

-- its first two bytes say where it ends
pub numeric_end_is : (body : List ℕ) (at : ℕ) → numeric_end body at ≡ at + numeric_len (number_at 2 body at)
unfolding numeric_end
numeric_end_is body at = refl

-- ---- one after the other

-- they end where those after the first one end
pub numerics_more : (n : ℕ) (body : List ℕ) (at : ℕ) → 0 < n → numerics_end n body at ≡ numerics_end (n - 1) body (numeric_end body at)
unfolding numerics_end
numerics_more zero body at some = absurd (omega arith)
numerics_more (suc n) body at some = let e : suc n - 1 ≡ n = omega arith in rw e refl

-- if the first one holds, the first fault is that of the others
pub numerics_held : (n : ℕ) (body : List ℕ) (at : ℕ) → 0 < n → first_failing (numeric_checks body at) ≡ None
    → first_failing (numerics_checks n body at) ≡ first_failing (numerics_checks (n - 1) body (numeric_end body at))
unfolding numerics_checks
numerics_held zero body at some held = absurd (omega arith)
numerics_held (suc n) body at some held =
    let e : suc n - 1 ≡ n = omega arith in
    rw e (first_failing-append_none (numeric_checks body at) (numerics_checks n body (numeric_end body at)) held)

-- a fault of the first one is the first fault
pub numerics_fail : (n : ℕ) (body : List ℕ) (at : ℕ) (e : LeafFault) → 0 < n → first_failing (numeric_checks body at) ≡ Some e → first_failing (numerics_checks n body at) ≡ Some e
unfolding numerics_checks
numerics_fail zero body at e some fails = absurd (omega arith)
numerics_fail (suc n) body at e some fails = first_failing-append_some (numeric_checks body at) (numerics_checks n body (numeric_end body at)) e fails

-- no numeric leaves end where they begin
pub numerics_end_none : (n : ℕ) (body : List ℕ) (at : ℕ) → n ≤ 0 → numerics_end n body at ≡ at
unfolding numerics_end
numerics_end_none n body at none = let e : n ≡ 0 = omega arith in rw e refl

-- no numeric leaves have no fault
pub numerics_checks_none : (n : ℕ) (body : List ℕ) (at : ℕ) → n ≤ 0 → first_failing (numerics_checks n body at) ≡ None
unfolding numerics_checks
numerics_checks_none n body at none = let e : n ≡ 0 = omega arith in rw e refl
