-- What all records of a TPI stream name.
use Rattle.std.specs.Prelude.{ℕ, ◌≡◌, ◌+◌, ◌<◌, ◌⊎◌, Some, List, [], ◌∷◌, ◌++◌, length, map}
use Rattle.std.specs.List.{AllByRecursion}
use Rattle.std.specs.declared.alloc.Global.{Global}
use Rattle.byte_fields.specs.Check.{first_failing}
use Rattle.tpi_records.specs.Header.{first_index}
use Rattle.tpi_records.specs.Records.{HasRecords, IsFirstFault}
use Rattle.cv_leaves.specs.Checks.{record_checks}
use Rattle.cv_leaves.specs.Place.{HasPlaces, IsChecked}
use Rattle.cv_leaves.specs.declared.fault.LeafFault.{LeafFault}
use Rattle.checked_types.specs.declared.fault.TypeFault.TheVariants.{Leaf}
use Rattle.file_types.specs.Fault.{pdb_number}
use Rattle.file_types.specs.declared.fault.PdbFault.{PdbFault}
use Rattle.file_types.specs.declared.fault.PdbFault.TheVariants as pdb
use Rattle.pdbmerge_c.specs.declared.fault.Fault.{Fault}
use Rattle.pdbmerge_c.specs.declared.references.Reference.{Reference}
use Rattle.pdbmerge_c.specs.Fault.{Tells}
use Rattle.pdbmerge_c.specs.Given.{Fills}
use Rattle.pdbmerge_c.specs.References.{reference_in}

-- each of these records has a list of places, and this is what they name at these places:
-- what the first record names, then what the second one names, and so on
abbrev pub NameAtPlaces : List (List ℕ) → List (List ℕ) → List Reference → Type 0
NameAtPlaces [] [] found = found ≡ []
NameAtPlaces (r ∷ records) (here ∷ places) found =
    HasPlaces r here
    × ((others : List Reference)
    × (found ≡ map (reference_in r) here ++ others)
    × NameAtPlaces records places others)
NameAtPlaces _ _ found = ⊥

-- this is what all records of the stream name, and how much each of them names
pub record AreAllReferences (stream : List ℕ) (found : List Reference) (counts : List ℕ) : Type 0
  where
    pub records : List (List ℕ)
    pub has : HasRecords stream records
    pub places : List (List ℕ)
    pub are : NameAtPlaces records places found
    pub counts_are : counts ≡ map length places

-- these are at the fronts of what was lent; `total` is how much all records name,
-- and `many` is how many records there are
pub record GivesAllReferences (stream : List ℕ) (total many : ℕ) (old new : List Reference)
    (counts_old counts_new : List ℕ) : Type 0 where
  pub found : List Reference
  pub counts : List ℕ
  pub are_all : AreAllReferences stream found counts
  pub total_is : total ≡ length found
  pub many_is : many ≡ length counts
  pub fills : Fills found old new
  pub fills_counts : Fills counts counts_old counts_new

-- there is more of them than room: than for what the records name, or than for the counts
pub record LacksRoomOfReferences (stream : List ℕ) (total many room count_room : ℕ) : Type 0 where
  pub found : List Reference
  pub counts : List ℕ
  pub are_all : AreAllReferences stream found counts
  pub total_is : total ≡ length found
  pub many_is : many ≡ length counts
  pub long : (room < length found) ⊎ (count_room < length counts)

-- the leaf of one of these records has this fault, and this is the type index of the record;
-- all records before it are checked
abbrev pub HasLeafFault : List (List ℕ) → ℕ → LeafFault → Type 0
HasLeafFault records index inner =
    (front : List (List ℕ)) × (r : List ℕ) × (others : List (List ℕ))
    × (records ≡ front ++ r ∷ others)
    × AllByRecursion IsChecked front
    × (index ≡ first_index + length front)
    × (first_failing (record_checks r) ≡ Some inner)

-- this is the first fault of the leaves of these records
abbrev pub IsLeafFault : {A : Type 0} → List (List ℕ) → PdbFault A → Type 0
IsLeafFault records (pdb.Type (Leaf index inner)) = HasLeafFault records index inner
IsLeafFault records _ = ⊥

-- this is the first fault of the stream, or, where it has none, that of the leaves of its records;
-- or memory ran out, and there is no fault
abbrev pub IsFaultOfAll : {A : Type 0} → List ℕ → PdbFault A → Type 0
IsFaultOfAll stream (pdb.Tpi inner) = IsFirstFault stream inner
IsFaultOfAll stream (pdb.Type (Leaf index inner)) =
    (records : List (List ℕ)) × HasRecords stream records × HasLeafFault records index inner
IsFaultOfAll stream pdb.Memory =
    (records : List (List ℕ)) × HasRecords stream records × AllByRecursion IsChecked records
IsFaultOfAll stream _ = ⊥

-- what is told is such a fault
abbrev pub RefusesAll : List ℕ → Fault → Type 0
RefusesAll stream = Tells {Why = PdbFault Global} (IsFaultOfAll stream) pdb_number
