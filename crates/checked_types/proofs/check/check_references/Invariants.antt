use Rattle.std.proofs.Common.{◌≡◌, ◌≤◌, ◌+◌, length}
use Rattle.std.specs.Prelude.{IfSome}
use Rattle.std.specs.List.{AllByRecursion}
use Rattle.byte_fields.specs.Check.{first_failing}
use Rattle.cv_leaves.specs.Checks.{places_of}
use Rattle.checked_types.specs.Check.{reference_checks}
use Rattle.checked_types.proofs.DeepLaws.{IsDeep}
use Rattle.checked_types.proofs.check.check_references.Given as goal

abbrev pub invariant-loop-place : goal.invariant-loop-place
invariant-loop-place l = record {
  rest : first_failing (reference_checks l.many l.position l.bytes l.place-iterator) ≡ first_failing (reference_checks l.many l.position l.bytes (places_of l.bytes));
  fit : AllByRecursion (λ p. p + 8 ≤ length l.bytes) l.place-iterator;
  depth : IfSome l.depth (IsDeep l.position l.depths l.bytes l.place-iterator);
}
