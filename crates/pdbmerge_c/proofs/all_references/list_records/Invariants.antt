use Rattle.std.proofs.Common.{◌≡◌, ◌++◌, List, ℕ, length, map}
use Rattle.std.specs.List.{AllByRecursion}
use Rattle.tpi_records.specs.Records.{IsFramed, records_in}
use Rattle.cv_leaves.specs.Place.{IsChecked}
use Rattle.pdbmerge_c.specs.AllReferences.{NameAtPlaces}
use Rattle.pdbmerge_c.proofs.all_references.list_records.Given as goal

abbrev pub invariant-loop-left : goal.invariant-loop-left
invariant-loop-left l = record {
  front : List (List ℕ);
  places : List (List ℕ);
  parts : front ++ records_in l.left ≡ records_in l.bytes;
  checked : AllByRecursion IsChecked (records_in l.left);
  named : NameAtPlaces front places l.lists.references.items;
  counted : l.lists.counts.items ≡ map length places;
  framed : IsFramed l.left;
}

abbrev pub decreases-loop-left : goal.decreases-loop-left
decreases-loop-left l = length l.left
