-- What a file that is created at its first write took.
use Rattle.std.specs.Prelude.{ℕ, ◌≡◌, Bool, false, List, Option, None}
use Rattle.byte_io.specs.declared.sink.Out.{Out}
use Rattle.show_commands.specs.declared.fault.RunFault.TheVariants.{Write}
use Rattle.host_files.specs.declared.fault.MapFault.TheVariants as maps
use Rattle.host_files.specs.declared.fault.ProgramFault.{ProgramFault}
use Rattle.host_files.specs.declared.fault.ProgramFault.TheVariants.{Run, Create, Map}
use Rattle.host_files.specs.declared.said.Place.{Place}
use Rattle.host_files.specs.declared.said.Place.TheVariants as place
use Rattle.host_files.specs.declared.output.State.{State}
use Rattle.host_files.specs.declared.output.State.TheVariants.{Absent, Created, Refused}

-- what the sink of the file took; nothing is told of a file that was not created
abbrev pub taken_of : {F : Type 0} → (Out F → Option (List ℕ)) → State F → Option (List ℕ)
taken_of taken Absent = None
taken_of taken (Created out) = taken out
taken_of taken Refused = None

-- a file takes nothing unless it was created
abbrev pub TakesIfCreated : {F : Type 0} → State F → ℕ → Type 0
TakesIfCreated Absent count = count ≡ 0
TakesIfCreated (Created out) count = Unit {0}
TakesIfCreated Refused count = count ≡ 0

-- the file was created
abbrev pub IsCreated : {F : Type 0} → State F → Type 0
IsCreated Absent = ⊥
IsCreated (Created out) = Unit {0}
IsCreated Refused = ⊥

-- the file could not be created
abbrev pub IsUncreated : {F : Type 0} → State F → Type 0
IsUncreated Absent = ⊥
IsUncreated (Created out) = ⊥
IsUncreated Refused = Unit {0}

-- the file has all that was written to it, as far as the system tells
abbrev pub IsWhole : {F : Type 0} → State F → Bool → Type 0
IsWhole state broken = (IsUncreated state → ⊥) × (broken ≡ false)

-- the fault of a file that could not be created
abbrev pub create_fault : Place → ProgramFault
create_fault place.Input = Create
create_fault place.List = Create
create_fault place.Out = Create
create_fault place.Map = Map maps.Create
create_fault place.StandardOutput = Create

-- the fault of a file that is not written whole
abbrev pub write_fault : Place → ProgramFault
write_fault place.Input = Run Write
write_fault place.List = Run Write
write_fault place.Out = Run Write
write_fault place.Map = Map maps.Write
write_fault place.StandardOutput = Run Write
