-- How records are added to a table, one by one.
use Rattle.std.specs.Prelude.{ℕ, ◌≡◌, ◌^◌, ◌<◌, ◌≤◌, ◌⊎◌, ◌↔◌, List, [], Option, length, take, get_or}
use Rattle.std.specs.List.{concat}
use Rattle.byte_fields.specs.Bytes.{AreBytes}
use Rattle.canonical_list.specs.Numbers.{AreNumbers}
use Rattle.text_set.specs.TextSet.{Holds}
use Rattle.type_table.specs.Maps.{IsMapped}
use Rattle.tpi_records.specs.Records.{Begins, HasRecords}
use Rattle.cv_leaves.specs.Place.{IsChecked}
use Rattle.cv_leaves.specs.References.{references}
use Rattle.cv_leaves.specs.Named.{named_places}
use Rattle.type_trees.specs.Tree.{Tree, IsType}
use Rattle.type_trees.specs.Types.{AreTypes, NamesThere}
use Rattle.type_trees.specs.Table.{IsTable, IsUnion, renumbered}
use Rattle.type_trees.specs.Canon.{weight}

-- the list begins with `front`
abbrev pub StartsWith : {A : Type 0} → List A → List A → Type 0
StartsWith list front = (length front ≤ length list) × (take (length front) list ≡ front)

-- this is r with the numbers of the records that it names, which all have one;
-- it names records at the same places
pub record IsRenumbered (numbers r made : List ℕ) : Type 0 where
  pub value : made ≡ renumbered (λ k. get_or numbers k 0) r
  pub there : NamesThere (length numbers) (references r)
  pub still : named_places made ≡ named_places r

-- r has places and names only records that have a number;
-- renumbered, it is at k in the texts `after`, which have at most this one text more than `before`
pub record IsPut (before after : List (List ℕ)) (numbers r : List ℕ) (k : ℕ) : Type 0 where
  pub checked : IsChecked r
  pub there : NamesThere (length numbers) (references r)
  pub inside : k < length after
  pub at : get_or after k [] ≡ renumbered (λ p. get_or numbers p 0) r
  pub holds : Holds before after (renumbered (λ p. get_or numbers p 0) r)
  pub bytes : AreBytes (renumbered (λ p. get_or numbers p 0) r)
  pub small : k < 2 ^ 31

-- the records are types, and the table `after` has their types and those of `before`
pub record IsAdded (records before after : List (List ℕ)) : Type 0 where
  pub types : AreTypes records
  pub table : IsTable after
  pub value : (t : Tree) → IsType after t ↔ (IsType before t ⊎ IsType records t)
  pub few : length after < 2 ^ 31

-- the bytes are this many records, which are types, and the table `after` has their types and those
-- of `before`; these are the numbers of the records
pub record AreFramedAdded (count : ℕ) (bytes : List ℕ) (before after : List (List ℕ))
    (numbers : List ℕ) : Type 0 where
  pub records : List (List ℕ)
  pub framed : Begins bytes records []
  pub counted : length records ≡ count
  pub few : length records < 2 ^ 30
  pub added : IsAdded records before after
  pub numbered : AreNumbers records after numbers

-- the table `after` has the types of these records behind those of `before`, and together they have
-- at most `limit` bytes; the maps of `old` have one more, if they are kept
pub record IsAddedWithin (records : List (List ℕ)) (limit : ℕ) (before after : List (List ℕ))
    (old new : Option (List (List ℕ))) : Type 0 where
  pub value : (t : Tree) → IsType after t ↔ (IsType before t ⊎ IsType records t)
  pub front : StartsWith after before
  pub within : (l : List Tree) × IsUnion l before records × (weight l ≤ limit)
  pub bytes : length (concat after) ≤ limit
  pub mapped : IsMapped records after old new

-- the stream has records that are types, and these were added
pub record IsStreamAdded (stream : List ℕ) (limit : ℕ) (before after : List (List ℕ))
    (old new : Option (List (List ℕ))) : Type 0 where
  pub records : List (List ℕ)
  pub has : HasRecords stream records
  pub types : AreTypes records
  pub added : IsAddedWithin records limit before after old new
