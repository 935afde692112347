-- The name of the type that a record describes.
use Rattle.std.specs.Prelude.{ℕ, ◌≡◌, ◌⊎◌, List, Option, Some, None, length}
use Rattle.cv_leaves.specs.Name.{name_of}
use Rattle.tpi_records.specs.Fault.{tpi_number}
use Rattle.tpi_records.specs.Records.{BeginsWith, IsFlaw}
use Rattle.pdbmerge_c.specs.declared.fault.Fault.{Fault}
use Rattle.pdbmerge_c.specs.Fault.{Tells, no_number}
use Rattle.pdbmerge_c.specs.Given.{Fills}

-- the bytes begin with a record whose type has this name, or none
abbrev pub IsNamed : List ℕ → Option (List ℕ) → Type 0
IsNamed bytes name = (r : List ℕ) × BeginsWith bytes r × (name_of r ≡ name)

-- the name is at the front of `out`, and this is its length;
-- or there is none, and `out` is as it was
abbrev pub GivesName : List ℕ → ℕ → List ℕ → List ℕ → Type 0
GivesName bytes size old new =
    ((name : List ℕ) × IsNamed bytes (Some name) × (size ≡ length name) × Fills name old new)
    ⊎ (IsNamed bytes None × (size ≡ no_number) × (new ≡ old))

-- what is told is the fault of the record at the front of the bytes
abbrev pub RefusesName : List ℕ → ℕ → Fault → Type 0
RefusesName bytes index = Tells (IsFlaw bytes index) tpi_number
