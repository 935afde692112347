use Rattle.std.proofs.Common.{◌≡◌, drop}
use Rattle.byte_fields.specs.Check.{first_failing}
use Rattle.cv_leaves.specs.Checks.{fixed_checks}
use Rattle.cv_leaves.proofs.checks.check_fixed.Given as goal

abbrev pub invariant-loop-place : goal.invariant-loop-place
invariant-loop-place l = first_failing (fixed_checks l.body l.places) ≡ first_failing (fixed_checks l.body (drop l.place-index l.places))
