use Rattle.std.proofs.Common.{◌≡◌, ◌++◌, drop}
use Rattle.byte_fields.specs.Check.{first_failing}
use Rattle.cv_leaves.specs.Checks.{body_of, fixed_checks}
use Rattle.cv_leaves.specs.Named.{named_among}
use Rattle.cv_leaves.proofs.named.list_fixed.Given as goal

abbrev pub invariant-loop-place : goal.invariant-loop-place
invariant-loop-place g l = record {
  held : first_failing (fixed_checks (body_of l.record) l.places) ≡ first_failing (fixed_checks (body_of l.record) (drop l.place-index l.places));
  so_far : l.list.items ++ named_among l.record (drop l.place-index l.places) ≡ l.initial.list.items ++ named_among l.record l.places;
}
