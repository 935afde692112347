use Rattle.std.proofs.Common.{◌≡◌, ◌≤◌, ◌+◌, ◌^◌, true, length, drop}
use Rattle.std.specs.List.{AllByRecursion}
use Rattle.byte_fields.specs.Check.{first_failing}
use Rattle.tpi_records.specs.Records.{IsRecord}
use Rattle.checked_types.specs.Check.{type_checks_from, checks_of}
use Rattle.type_trees.specs.Depth.{AreBelow}
use Rattle.checked_types.proofs.DeepLaws.{IsWalked}
use Rattle.checked_types.proofs.types.check_all.Given as goal

abbrev pub invariant-loop-bytes : goal.invariant-loop-bytes
invariant-loop-bytes g l = record {
  rest : first_failing (type_checks_from l.many l.position l.bytes-iterator) ≡ first_failing (checks_of l.records);
  each : AllByRecursion IsRecord l.bytes-iterator;
  few : (l.position + length l.bytes-iterator ≡ l.many) × (l.many ≤ 2 ^ 30);
  left : l.bytes-iterator ≡ drop l.position l.records;
  low : AreBelow (l.position + 1) l.depths;
  walked : l.all ≡ true → IsWalked l.records l.position l.bytes-iterator l.initial.depths l.depths;
}
