use Rattle.std.proofs.Common.{◌≡◌, ◌+◌, ◌++◌, ◌≤◌, ◌^◌, length, string_bytes}
use Rattle.std.specs.List.{AllByRecursion}
use Rattle.tpi_records.specs.Records.{IsRecord}
use Rattle.output_lines.specs.Records.{record_lines}
use Rattle.output_lines.proofs.records.record_lines.Given as goal
use Rattle.tpi_records.specs.Header.{first_index}

abbrev pub invariant-loop-bytes : goal.invariant-loop-bytes
invariant-loop-bytes g l = record {
  shown : string_bytes l.text ++ record_lines l.index l.bytes-iterator ≡ record_lines first_index l.records;
  each : AllByRecursion IsRecord l.bytes-iterator;
  few : l.index + length l.bytes-iterator ≤ 2 ^ 31;
}
