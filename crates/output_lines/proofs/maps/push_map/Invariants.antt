use Rattle.std.proofs.Common.{◌≡◌, ◌+◌, ◌++◌, drop, string_bytes}
use Rattle.tpi_records.specs.Header.{first_index}
use Rattle.output_lines.specs.Maps.{map_lines}
use Rattle.output_lines.proofs.maps.push_map.Given as goal

abbrev pub invariant-loop-number : goal.invariant-loop-number
invariant-loop-number g l = record {
  shown : string_bytes l.text ++ map_lines l.file l.index (drop l.number-index l.numbers) ≡ string_bytes l.fn.text ++ map_lines l.file first_index l.numbers;
  at : l.index ≡ first_index + l.number-index;
}
