use Rattle.std.proofs.Common.{◌≡◌, ◌+◌, ◌++◌, length}
use Rattle.std.specs.List.{concat}
use Rattle.pdbmerge_c.proofs.OffsetLaws.{offsets_from}
use Rattle.pdbmerge_c.proofs.records.push_offsets.Given as goal

abbrev pub invariant-loop-bytes : goal.invariant-loop-bytes
invariant-loop-bytes l = record {
  listed : l.offsets.items ++ offsets_from l.at l.bytes-iterator ≡ offsets_from 56 l.records;
  end : l.at + length (concat l.bytes-iterator) ≡ 56 + length (concat l.records);
}
