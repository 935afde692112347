use Rattle.std.proofs.Common.{◌≡◌, ◌≤◌, length}
use Rattle.byte_fields.specs.Check.{first_failing}
use Rattle.cv_leaves.specs.Numeric.{numerics_end, numerics_checks}
use Rattle.cv_leaves.proofs.numeric.after_numerics.Given as goal

abbrev pub invariant-leaves : goal.invariant-leaves
invariant-leaves l = record {
  inside : l.end ≤ length l.body;
  end : numerics_end l.count l.body l.at ≡ numerics_end l.left l.body l.end;
  checks : first_failing (numerics_checks l.count l.body l.at) ≡ first_failing (numerics_checks l.left l.body l.end);
}

abbrev pub decreases-leaves : goal.decreases-leaves
decreases-leaves l = l.left
