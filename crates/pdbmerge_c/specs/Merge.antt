-- What a merge answers.
use Rattle.std.specs.Prelude.{ℕ, ◌≡◌, ◌≤◌, ◌<◌, List, Option, Some, Result, Ok, length, map}
use Rattle.std.specs.Borrow.{Bor}
use Rattle.std.specs.declared.alloc.Global.{Global}
use Rattle.byte_io.specs.declared.inputs.InputFault.{InputFault}
use Rattle.msf_superblock.specs.BlockNumber.{IsBlockSize}
use Rattle.pdb_info.specs.Settings.{SettingsView, limit_of_records, record_limit}
use Rattle.pdb_merge.specs.Answer.{RefusesFiles}
use Rattle.pdb_merge.specs.Fault.{merge_number, faulty_file}
use Rattle.pdb_merge.specs.Union.{HasType, Weighs}
use Rattle.pdb_merge.specs.declared.fault.MergeFault.{MergeFault}
use Rattle.pdb_merge.specs.declared.fault.MergeFault.TheVariants as merge
use Rattle.pdb_merge.specs.declared.fault.OutFault.{OutFault}
use Rattle.pdb_merge.specs.declared.fault.OutFault.TheVariants as out
use Rattle.pdbmerge_c.specs.declared.fault.Fault.{Fault}
use Rattle.pdbmerge_c.specs.declared.merge.Choices.{Choices}
use Rattle.pdbmerge_c.specs.declared.merge.Report.{Report}
use Rattle.pdbmerge_c.specs.Fault.{IsTold, input_code}
use Rattle.pdbmerge_c.specs.Given.{Fills}

-- the bytes of the files
abbrev pub bytes_of_files : List (Bor (List ℕ)) → List (List ℕ)
bytes_of_files files = map (λ file. file.now) files

-- what reading each of them gives: its bytes
abbrev pub inputs_of : List (Bor (List ℕ)) → Option (List (Result (List ℕ) InputFault))
inputs_of files = Some (map Ok (bytes_of_files files))

-- a file can have these settings
abbrev pub AreAllowed : Choices → Type 0
AreAllowed choices = (choices.limit ≤ limit_of_records) × IsBlockSize choices.block_size

-- the settings that were chosen
abbrev pub settings_of : Choices → SettingsView
settings_of choices =
    record {
      guid = choices.guid;
      age = choices.age;
      limit = choices.limit;
      block_size = choices.block_size;
    }

-- what a file with some records is to some files and settings
abbrev pub FileFor : Type 1
FileFor = List (List ℕ) → SettingsView → List ℕ → List (List ℕ) → Type 0

-- this is the file of the types of the files, and the report says how many types it has,
-- how many bytes they have together, and how long it is
pub record IsReported (IsFile : FileFor) (files : List (Bor (List ℕ))) (choices : Choices)
    (report : Report) (file : List ℕ) : Type 0 where
  pub records : List (List ℕ)
  pub is_file : IsFile (bytes_of_files files) (settings_of choices) file records
  pub types : report.types ≡ length records
  pub bytes : Weighs (HasType (bytes_of_files files)) report.bytes
  pub long : report.length ≡ length file

-- that file is at the front of `out`
pub record Merges (IsFile : FileFor) (files : List (Bor (List ℕ))) (choices : Choices)
    (report : Report) (old new : List ℕ) : Type 0 where
  pub file : List ℕ
  pub is_reported : IsReported IsFile files choices report file
  pub fills : Fills file old new

-- that file is longer than the room
pub record LacksRoom (IsFile : FileFor) (files : List (Bor (List ℕ))) (choices : Choices)
    (report : Report) (room : ℕ) : Type 0 where
  pub file : List ℕ
  pub is_reported : IsReported IsFile files choices report file
  pub long : room < length file

-- this is why files are not merged into memory: a fault that is such a reason, or memory ran out
abbrev pub IsWhy : {A : Type 0} → (MergeFault A → Type 0) → OutFault A → Type 0
IsWhy IsReason (out.Merge why) = IsReason why
IsWhy IsReason _ = Unit {0}

-- the reason that is told of it
abbrev pub reason_of : {A : Type 0} → OutFault A → MergeFault A
reason_of (out.Merge why) = why
reason_of _ = merge.Memory

-- this is why the files are not merged into memory: they are refused, or memory ran out
abbrev pub IsRefusal : {A : Type 0} → List (Bor (List ℕ)) → SettingsView → OutFault A → Type 0
IsRefusal files settings why = IsWhy (RefusesFiles (inputs_of files) (record_limit settings)) why

-- what is told is such a reason
pub record TellsReason (IsReason : MergeFault Global → Type 0) (fault : Fault) : Type 0 where
  pub why : MergeFault Global
  pub is_fault : IsReason why
  pub told : IsTold fault (merge_number why) (input_code (faulty_file why))

-- what is told is why the files are refused
abbrev pub RefusesMerge : List (Bor (List ℕ)) → SettingsView → Fault → Type 0
RefusesMerge files settings fault =
    TellsReason (RefusesFiles (inputs_of files) (record_limit settings)) fault
