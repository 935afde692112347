-- The faults of the program.
use Rattle.std.specs.Prelude.{ℕ, Option, None}
use Rattle.pdb_merge.specs.Fault.{faulty_file}
use Rattle.show_commands.specs.declared.fault.RunFault.TheVariants.{Merge}
use Rattle.show_commands.specs.Fault.{run_number}
use Rattle.host_files.specs.declared.fault.ProgramFault.{ProgramFault}
use Rattle.host_files.specs.declared.fault.ProgramFault.TheVariants.{Run, Create, Map}
use Rattle.host_files.specs.declared.fault.MapFault.{MapFault}
use Rattle.host_files.specs.declared.fault.MapFault.TheVariants as maps

-- the position of the input that a fault names
abbrev pub faulty_input : ProgramFault → Option ℕ
faulty_input (Run (Merge fault)) = faulty_file fault
faulty_input _ = None

-- the number of a fault of the maps
abbrev pub map_number : MapFault → ℕ
map_number maps.Create = 41
map_number maps.Write = 36

-- the number of a fault of the program
abbrev pub program_number : ProgramFault → ℕ
program_number (Run fault) = run_number fault
program_number Create = 41
program_number (Map fault) = map_number fault
