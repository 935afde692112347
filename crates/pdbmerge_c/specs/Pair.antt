-- The types of two files.
use Rattle.std.specs.Prelude.{ℕ, ◌≡◌, ◌⊎◌, List}
use Rattle.std.specs.declared.alloc.Global.{Global}
use Rattle.pdb_merge.specs.Fault.{merge_number, faulty_file}
use Rattle.pdb_merge.specs.declared.fault.MergeFault.{MergeFault}
use Rattle.pdb_merge.specs.declared.fault.MergeFault.TheVariants as merge
use Rattle.file_types.specs.Read.{IsAccepted, HasPdbFault}
use Rattle.file_types.specs.declared.fault.PdbFault.{PdbFault}
use Rattle.file_types.specs.declared.fault.PdbFault.TheVariants as pdb
use Rattle.pdbmerge_c.specs.declared.fault.Fault.{Fault}
use Rattle.pdbmerge_c.specs.Fault.{IsTold, input_code}

-- the fault of the file at this position
abbrev pub input_fault : {A : Type 0} → ℕ → PdbFault A → MergeFault A
input_fault input pdb.Memory = merge.Memory
input_fault input why = merge.Refused input why

-- this is the first fault of the file at this position, on the way to its types; or memory ran out
abbrev pub IsFaultOfInput : {A : Type 0} → ℕ → List ℕ → MergeFault A → Type 0
IsFaultOfInput input file (merge.Refused at why) = (at ≡ input) × HasPdbFault file why
IsFaultOfInput input file merge.Memory = Unit {0}
IsFaultOfInput input file _ = ⊥

-- this is the first fault of the first file, or, where that is accepted, of the second;
-- or memory ran out
abbrev pub IsFaultOfPair : {A : Type 0} → List ℕ → List ℕ → MergeFault A → Type 0
IsFaultOfPair first second why =
    IsFaultOfInput 0 first why
    ⊎ (((records : List (List ℕ)) × IsAccepted first records) × IsFaultOfInput 1 second why)

-- what is told is such a fault, and the file that has it
pub record RefusesPair (first second : List ℕ) (fault : Fault) : Type 0 where
  pub why : MergeFault Global
  pub is_fault : IsFaultOfPair first second why
  pub told : IsTold fault (merge_number why) (input_code (faulty_file why))
