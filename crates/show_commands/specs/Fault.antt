-- The faults of crates below, as faults of a command. Out of memory is always `Memory`.
use Rattle.pdb_info.specs.declared.fault.InfoFault.{InfoFault}
use Rattle.pdb_info.specs.declared.fault.InfoFault.TheVariants as infos
use Rattle.file_types.specs.declared.fault.PdbFault.{PdbFault}
use Rattle.file_types.specs.declared.fault.PdbFault.TheVariants as pdb
use Rattle.pdb_merge.specs.declared.fault.MergeFault.{MergeFault}
use Rattle.pdb_merge.specs.declared.fault.MergeFault.TheVariants as merges
use Rattle.pdb_merge.specs.declared.fault.OutFault.{OutFault}
use Rattle.pdb_merge.specs.declared.fault.OutFault.TheVariants as outs
use Rattle.byte_io.specs.declared.input.ReadFault.{ReadFault}
use Rattle.byte_io.specs.declared.inputs.InputFault.{InputFault}
use Rattle.byte_io.specs.declared.inputs.InputFault.TheVariants as inputs
use Rattle.byte_io.specs.declared.input.ReadFault.TheVariants as reads
use Rattle.std.specs.Prelude.{ℕ}
use Rattle.byte_io.specs.Fault.{read_number}
use Rattle.cv_leaves.specs.Fault.{leaf_number}
use Rattle.pdb_info.specs.Fault.{info_number}
use Rattle.file_types.specs.Fault.{pdb_number}
use Rattle.pdb_merge.specs.Fault.{merge_number}
use Rattle.show_commands.specs.declared.fault.RunFault.{RunFault}
use Rattle.show_commands.specs.declared.fault.RunFault.TheVariants.{Open, Read, TooLong, Info, Pdb, Merge, NoRecord, Leaf, Memory, Write}

-- a fault of reading
abbrev pub run_from_read : {A : Type 0} → ReadFault → RunFault A
run_from_read reads.Memory = Memory
run_from_read fault = Read fault

-- a file that was not opened or not read
abbrev pub run_from_input : {A : Type 0} → InputFault → RunFault A
run_from_input inputs.Open = Open
run_from_input (inputs.Read fault) = run_from_read fault

-- a fault of the info stream
abbrev pub run_from_info : {A : Type 0} → InfoFault → RunFault A
run_from_info infos.Memory = Memory
run_from_info fault = Info fault

-- a fault of a file
abbrev pub run_from_pdb : {A : Type 0} → PdbFault A → RunFault A
run_from_pdb pdb.Memory = Memory
run_from_pdb fault = Pdb fault

-- a fault of merging
abbrev pub run_from_merge : {A : Type 0} → MergeFault A → RunFault A
run_from_merge merges.Memory = Memory
run_from_merge fault = Merge fault

-- a fault of merging, of a command with one input, which is not counted
abbrev pub run_from_one : {A : Type 0} → MergeFault A → RunFault A
run_from_one (merges.Input file fault) = run_from_input fault
run_from_one (merges.Refused file fault) = run_from_pdb fault
run_from_one fault = run_from_merge fault

-- a fault of merging, or of writing the file
abbrev pub run_from_out : {A : Type 0} → OutFault A → RunFault A
run_from_out (outs.Merge fault) = run_from_merge fault
run_from_out outs.Memory = Memory
run_from_out outs.Write = Write

-- the number of a fault
abbrev pub run_number : {A : Type 0} → RunFault A → ℕ
run_number Open = 40
run_number (Read fault) = read_number fault
run_number TooLong = 38
run_number (Pdb fault) = pdb_number fault
run_number (Info fault) = info_number fault
run_number (Merge fault) = merge_number fault
run_number (NoRecord _) = 39
run_number (Leaf _ fault) = leaf_number fault
run_number Memory = 33
run_number Write = 36
