-- The faults of crates below, as faults of a file. Out of memory is always `Memory`.
use Rattle.std.specs.Prelude.{ℕ}
use Rattle.msf_superblock.specs.Fault.{msf_number}
use Rattle.msf_streams.specs.Fault.{stream_number}
use Rattle.pdb_info.specs.Fault.{info_number}
use Rattle.tpi_records.specs.Fault.{tpi_number}
use Rattle.checked_types.specs.Fault.{type_number}
use Rattle.msf_superblock.specs.declared.fault.MsfFault.{MsfFault}
use Rattle.msf_superblock.specs.declared.fault.MsfFault.TheVariants as msf
use Rattle.msf_streams.specs.declared.fault.StreamFault.{StreamFault}
use Rattle.msf_streams.specs.declared.fault.StreamFault.TheVariants as streams
use Rattle.pdb_info.specs.declared.fault.InfoFault.{InfoFault}
use Rattle.pdb_info.specs.declared.fault.InfoFault.TheVariants as infos
use Rattle.tpi_records.specs.declared.fault.TpiFault.{TpiFault}
use Rattle.tpi_records.specs.declared.fault.TpiFault.TheVariants as tpi
use Rattle.checked_types.specs.declared.fault.TypeFault.{TypeFault}
use Rattle.checked_types.specs.declared.fault.TypeFault.TheVariants as types
use Rattle.file_types.specs.declared.fault.PdbFault.{PdbFault}
use Rattle.file_types.specs.declared.fault.PdbFault.TheVariants as fault

-- a fault of the container
abbrev pub pdb_from_msf : {A : Type 0} → MsfFault → PdbFault A
pdb_from_msf msf.Memory = fault.Memory
pdb_from_msf inner = fault.Msf inner

-- a fault of its streams
abbrev pub pdb_from_stream : {A : Type 0} → StreamFault → PdbFault A
pdb_from_stream streams.Memory = fault.Memory
pdb_from_stream inner = fault.Stream inner

-- a fault of the info stream
abbrev pub pdb_from_info : {A : Type 0} → InfoFault → PdbFault A
pdb_from_info infos.Memory = fault.Memory
pdb_from_info inner = fault.Info inner

-- a fault of the TPI stream
abbrev pub pdb_from_tpi : {A : Type 0} → TpiFault → PdbFault A
pdb_from_tpi tpi.Memory = fault.Memory
pdb_from_tpi inner = fault.Tpi inner

-- a fault of the type records
abbrev pub pdb_from_type : {A : Type 0} → TypeFault A → PdbFault A
pdb_from_type types.Memory = fault.Memory
pdb_from_type inner = fault.Type inner

-- the number of a fault of a file
abbrev pub pdb_number : {A : Type 0} → PdbFault A → ℕ
pdb_number (fault.Msf inner) = msf_number inner
pdb_number (fault.Stream inner) = stream_number inner
pdb_number (fault.Info inner) = info_number inner
pdb_number (fault.Tpi inner) = tpi_number inner
pdb_number (fault.Type inner) = type_number inner
pdb_number fault.Memory = 33
