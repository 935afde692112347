use Rattle.std.proofs.Common.{◌-◌, ◌≡◌, ◌<◌, ◌^◌}
use Rattle.byte_fields.specs.Check.{first_failing}
use Rattle.cv_leaves.specs.Checks.{checks_from}
use Rattle.cv_leaves.proofs.checks.check_parts.Given as goal

abbrev pub invariant-loop-at : goal.invariant-loop-at
invariant-loop-at l =
    (l.at < 2 ^ 17) × (first_failing (checks_from l.rest l.body l.stop l.start) ≡ first_failing (checks_from l.rest l.body l.stop l.at))

abbrev pub decreases-loop-at : goal.decreases-loop-at
decreases-loop-at l = l.stop - l.at
