use Rattle.std.proofs.Common.{◌≡◌, ◌+◌, length}
use Rattle.std.specs.List.{concat}
use Rattle.tpi_records.specs.Records.{start_of}
use Rattle.pdbmerge_c.proofs.records.offset_of.Given as goal

abbrev pub invariant-loop-bytes : goal.invariant-loop-bytes
invariant-loop-bytes l = record {
  rest : l.at + start_of l.bytes-iterator l.before ≡ 56 + start_of l.records l.position;
  many : l.before + length l.records ≡ l.position + length l.bytes-iterator;
  end : l.at + length (concat l.bytes-iterator) ≡ 56 + length (concat l.records);
}
