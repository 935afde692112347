-- The faults of one file among several. Out of memory is always `Memory`.
use Rattle.std.specs.Prelude.{ℕ, Option, Some, None, ◌≢◌}
use Rattle.byte_io.specs.Fault.{input_number}
use Rattle.byte_io.specs.declared.input.ReadFault.TheVariants as reads
use Rattle.byte_io.specs.declared.inputs.InputFault.{InputFault}
use Rattle.byte_io.specs.declared.inputs.InputFault.TheVariants as inputs
use Rattle.file_types.specs.Fault.{pdb_number}
use Rattle.file_types.specs.declared.fault.PdbFault.{PdbFault}
use Rattle.file_types.specs.declared.fault.PdbFault.TheVariants as fault
use Rattle.type_table.specs.declared.fault.JoinFault.{JoinFault}
use Rattle.type_table.specs.declared.fault.JoinFault.TheVariants as join
use Rattle.pdb_merge.specs.declared.fault.AddFault.{AddFault}
use Rattle.pdb_merge.specs.declared.fault.AddFault.TheVariants as add
use Rattle.pdb_merge.specs.declared.fault.MergeFault.{MergeFault}
use Rattle.pdb_merge.specs.declared.fault.MergeFault.TheVariants as merge
use Rattle.pdb_merge.specs.declared.fault.OutFault.{OutFault}
use Rattle.pdb_merge.specs.declared.fault.OutFault.TheVariants as out

-- a fault of the file that is added
abbrev pub add_from_pdb : {A : Type 0} → PdbFault A → AddFault A
add_from_pdb fault.Memory = add.Memory
add_from_pdb inner = add.Refused inner

-- a fault of the union
abbrev pub add_from_join : {A : Type 0} → JoinFault → AddFault A
add_from_join (join.TooLarge bytes) = add.TooLarge bytes
add_from_join join.Memory = add.Memory

-- a fault of the file at this position of a list
abbrev pub merge_from_add : {A : Type 0} → ℕ → AddFault A → MergeFault A
merge_from_add file (add.Refused inner) = merge.Refused file inner
merge_from_add file (add.TooLarge bytes) = merge.TooLarge file bytes
merge_from_add file add.Memory = merge.Memory

-- a fault of reading the file at this position of a list
abbrev pub merge_from_input : {A : Type 0} → ℕ → InputFault → MergeFault A
merge_from_input file (inputs.Read reads.Memory) = merge.Memory
merge_from_input file fault = merge.Input file fault

-- ---- out of memory is never inside another fault

-- the fault of a file that is added is not out of memory
abbrev pub AddNamesFault : {A : Type 0} → AddFault A → Type 0
AddNamesFault (add.Refused inner) = inner ≢ fault.Memory
AddNamesFault _ = Unit {0}

-- the fault of the file that is named is not out of memory
abbrev pub NamesFault : {A : Type 0} → MergeFault A → Type 0
NamesFault (merge.Input file inner) = inner ≢ inputs.Read reads.Memory
NamesFault (merge.Refused file inner) = inner ≢ fault.Memory
NamesFault _ = Unit {0}

-- ---- the number of a fault

-- the number of a fault of the file that is added
abbrev pub add_number : {A : Type 0} → AddFault A → ℕ
add_number (add.Refused inner) = pdb_number inner
add_number (add.TooLarge _) = 32
add_number add.Memory = 33

-- the number of a fault of merging
abbrev pub merge_number : {A : Type 0} → MergeFault A → ℕ
merge_number (merge.Input _ inner) = input_number inner
merge_number (merge.Refused _ inner) = pdb_number inner
merge_number (merge.TooLarge _ _) = 32
merge_number merge.Memory = 33

-- the number of a fault of merging into a sink
abbrev pub out_number : {A : Type 0} → OutFault A → ℕ
out_number (out.Merge inner) = merge_number inner
out_number out.Memory = 33
out_number out.Write = 36

-- the position of the file that a fault names
abbrev pub faulty_file : {A : Type 0} → MergeFault A → Option ℕ
faulty_file (merge.Input file _) = Some file
faulty_file (merge.Refused file _) = Some file
faulty_file (merge.TooLarge file _) = Some file
faulty_file merge.Memory = None
