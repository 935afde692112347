use Rattle.std.specs.List.{AllByRecursion}
use Rattle.tpi_records.specs.Records.{IsRecord, records_in}
use Rattle.tpi_records.proofs.IndexLaws.{AreStarted}
use Rattle.tpi_records.proofs.index.starts_of.Given as goal

abbrev pub invariant-loop-record : goal.invariant-loop-record
invariant-loop-record g l = record {
  each : AllByRecursion IsRecord l.record-iterator;
  started : AreStarted (records_in l.bytes) l.starts.items l.start l.record-iterator;
}
