use Rattle.std.proofs.Common.{◌≡◌, ◌*◌, ◌-◌, ◌≤◌, ℕ, List, length, drop}
use Rattle.std.specs.Prelude.{IsTrue}
use Rattle.tpi_records.specs.Records.{Begins, starts_below, starts_for}
use Rattle.tpi_records.proofs.framing.check_records.Given as goal

abbrev pub invariant-loop-start : goal.invariant-loop-start
invariant-loop-start g l = record {
  inside : l.start ≤ length l.bytes;
  few : 4 * l.found ≤ l.start;
  begins : (records : List (List ℕ)) × Begins l.bytes records (drop l.start l.bytes) × (l.found ≡ length records) × (IsTrue l.kept → l.starts.items ≡ starts_below records (starts_for l.found));
}

abbrev pub decreases-loop-start : goal.decreases-loop-start
decreases-loop-start g l = length l.bytes - l.start
