use Rattle.std.proofs.Common.{◌≡◌, drop}
use Rattle.tpi_records.specs.Records.{IsFramed, records_in}
use Rattle.tpi_records.proofs.iter.skip.Given as goal

abbrev pub invariant-loop : goal.invariant-loop
invariant-loop l = record {
  framed : IsFramed l.left;
  records : records_in l.left ≡ drop l.counter (records_in l.bytes);
}
