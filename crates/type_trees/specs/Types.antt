-- Which records make types.
use Rattle.std.specs.Prelude.{ℕ, ◌+◌, ◌<◌, List}
use Rattle.std.specs.List.{AllByRecursion}
use Rattle.tpi_records.specs.Records.{IsRecord}
use Rattle.cv_leaves.specs.Place.{IsChecked}
use Rattle.type_trees.specs.Tree.{IsRanked}
use Rattle.tpi_records.specs.Header.{first_index}

-- each record has its framing and its places,
-- and some rank makes each record higher than those that it names;
-- each reference is simple or names a record
pub record AreTypes (records : List (List ℕ)) : Type 0 where
  pub framed : AllByRecursion IsRecord records
  pub checked : AllByRecursion IsChecked records
  pub ranked : (rank : ℕ → ℕ) × IsRanked records rank

-- each reference is simple or names one of this number of records
abbrev pub NamesThere : ℕ → List ℕ → Type 0
NamesThere many ns = AllByRecursion (λ n. n < first_index + many) ns
