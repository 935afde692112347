-- What a record names.
use Rattle.std.specs.Prelude.{ℕ, ◌≡◌, Some, List, map}
use Rattle.std.specs.declared.alloc.Global.{Global}
use Rattle.byte_fields.specs.Check.{first_failing}
use Rattle.cv_leaves.specs.Checks.{record_checks}
use Rattle.cv_leaves.specs.Place.{HasPlaces, IsChecked}
use Rattle.cv_leaves.specs.References.{reference_at}
use Rattle.checked_types.specs.declared.fault.TypeFault.TheVariants.{Leaf}
use Rattle.tpi_records.specs.Records.{BeginsWith, IsFlaw}
use Rattle.file_types.specs.Fault.{pdb_number}
use Rattle.file_types.specs.declared.fault.PdbFault.{PdbFault}
use Rattle.file_types.specs.declared.fault.PdbFault.TheVariants as pdb
use Rattle.pdbmerge_c.specs.declared.fault.Fault.{Fault}
use Rattle.pdbmerge_c.specs.declared.references.Reference.{Reference}
use Rattle.pdbmerge_c.specs.Fault.{Tells}

-- what a record names at a place
abbrev pub reference_in : List ℕ → ℕ → Reference
reference_in r place = record { place = place; index = reference_at r place }

-- the bytes begin with a record, and this is what it names at its places
pub record AreReferences (bytes : List ℕ) (found : List Reference) : Type 0 where
  pub r : List ℕ
  pub begins : BeginsWith bytes r
  pub places : List ℕ
  pub has_places : HasPlaces r places
  pub are : found ≡ map (reference_in r) places

-- this is the first fault of the leaf of a record, which has this type index
abbrev pub IsFaultOfLeaf : {A : Type 0} → List ℕ → ℕ → PdbFault A → Type 0
IsFaultOfLeaf r index (pdb.Type (Leaf at inner)) =
    (at ≡ index) × (first_failing (record_checks r) ≡ Some inner)
IsFaultOfLeaf r index _ = ⊥

-- this is the first fault of the record at the front of the bytes: of its length, else of its leaf;
-- or memory ran out, and the record has no fault
abbrev pub IsFaultOfRecord : {A : Type 0} → List ℕ → ℕ → PdbFault A → Type 0
IsFaultOfRecord bytes index (pdb.Tpi inner) = IsFlaw bytes index inner
IsFaultOfRecord bytes index (pdb.Type (Leaf at inner)) =
    (at ≡ index)
    × ((r : List ℕ) × BeginsWith bytes r × (first_failing (record_checks r) ≡ Some inner))
IsFaultOfRecord bytes index pdb.Memory = (r : List ℕ) × BeginsWith bytes r × IsChecked r
IsFaultOfRecord bytes index _ = ⊥

-- what is told is such a fault
abbrev pub RefusesRecord : List ℕ → ℕ → Fault → Type 0
RefusesRecord bytes index = Tells {Why = PdbFault Global} (IsFaultOfRecord bytes index) pdb_number
