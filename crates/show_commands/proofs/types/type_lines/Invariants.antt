use Rattle.std.proofs.Common.{◌+◌, ◌≤◌, ◌^◌, length, string_bytes}
use Rattle.std.specs.List.{AllByRecursion}
use Rattle.tpi_records.specs.Records.{IsRecord}
use Rattle.show_commands.proofs.TypesLaws.{Begins, Checked}
use Rattle.show_commands.proofs.types.type_lines.Given as goal

abbrev pub invariant-loop-bytes : goal.invariant-loop-bytes
invariant-loop-bytes g l = record {
  shown : Begins l.records (string_bytes l.text) l.index l.bytes-iterator;
  checked : Checked l.records l.bytes-iterator l.index;
  each : AllByRecursion IsRecord l.bytes-iterator;
  few : l.index + length l.bytes-iterator ≤ 2 ^ 31;
}
