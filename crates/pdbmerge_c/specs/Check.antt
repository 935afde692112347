-- What a check answers.
use Rattle.std.specs.Prelude.{ℕ, ◌≡◌, ◌⊎◌, None, List, length}
use Rattle.std.specs.List.{concat}
use Rattle.std.specs.declared.alloc.Global.{Global}
use Rattle.byte_fields.specs.Check.{first_failing}
use Rattle.msf_blocks.specs.Layout.{layout_checks}
use Rattle.type_trees.specs.Depth.{HasLevels}
use Rattle.file_types.specs.Fault.{pdb_number}
use Rattle.file_types.specs.Read.{IsAccepted, HasPdbFault}
use Rattle.file_types.specs.declared.fault.PdbFault.{PdbFault}
use Rattle.file_types.specs.declared.fault.PdbFault.TheVariants.{Memory}
use Rattle.pdbmerge_c.specs.declared.check.Counts.{Counts}
use Rattle.pdbmerge_c.specs.declared.fault.Fault.{Fault}
use Rattle.pdbmerge_c.specs.Fault.{Tells}

-- the file is accepted, and these are its counts
pub record Checks (file : List ℕ) (counts : Counts) : Type 0 where
  pub records : List (List ℕ)
  pub accepted : IsAccepted file records
  pub many : counts.records ≡ length records
  pub long : counts.bytes ≡ length (concat records)
  pub levels : HasLevels records counts.levels

-- this is the first fault of the file on the way to its types;
-- or memory ran out, and the container has no fault
abbrev pub IsFaultOfFile : {A : Type 0} → List ℕ → PdbFault A → Type 0
IsFaultOfFile file why =
    HasPdbFault file why ⊎ ((why ≡ Memory) × (first_failing (layout_checks file) ≡ None))

-- what is told is such a fault
abbrev pub RefusesCheck : List ℕ → Fault → Type 0
RefusesCheck file = Tells {Why = PdbFault Global} (IsFaultOfFile file) pdb_number
