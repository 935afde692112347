use Rattle.std.proofs.Common.{◌≡◌, ◌+◌, ◌*◌, ◌≤◌, ◌++◌, List, ℕ, length}
use Rattle.std.specs.List.{AllByRecursion}
use Rattle.tpi_records.specs.Header.{first_index}
use Rattle.tpi_records.specs.Records.{IsFramed, records_in}
use Rattle.cv_leaves.specs.Place.{IsChecked}
use Rattle.pdbmerge_c.proofs.all_references.check_leaves.Given as goal

abbrev pub invariant-loop-left : goal.invariant-loop-left
invariant-loop-left l = record {
  front : List (List ℕ);
  parts : front ++ records_in l.left ≡ records_in l.bytes;
  checked : AllByRecursion IsChecked front;
  index_is : l.index ≡ first_index + length front;
  few : 4 * length front + length l.left ≤ length l.bytes;
  framed : IsFramed l.left;
}

abbrev pub decreases-loop-left : goal.decreases-loop-left
decreases-loop-left l = length l.left
