-- The numbers of faults are between 1 and 99: none of them is a number of a call's own.
use Rattle.std.proofs.Common.{ℕ, ◌≤◌, ◌<◌, arith}
use Rattle.byte_io.specs.Fault.{read_number, input_number}
use Rattle.byte_io.specs.declared.input.ReadFault.{ReadFault}
use Rattle.byte_io.specs.declared.input.ReadFault.TheVariants as reads
use Rattle.byte_io.specs.declared.inputs.InputFault.{InputFault}
use Rattle.byte_io.specs.declared.inputs.InputFault.TheVariants as inputs
use Rattle.msf_superblock.specs.Fault.{msf_number}
use Rattle.msf_superblock.specs.declared.fault.MsfFault.{MsfFault}
use Rattle.msf_superblock.specs.declared.fault.MsfFault.TheVariants as msf
use Rattle.msf_streams.specs.Fault.{stream_number}
use Rattle.msf_streams.specs.declared.fault.StreamFault.{StreamFault}
use Rattle.msf_streams.specs.declared.fault.StreamFault.TheVariants as streams
use Rattle.pdb_info.specs.Fault.{info_number}
use Rattle.pdb_info.specs.declared.fault.InfoFault.{InfoFault}
use Rattle.pdb_info.specs.declared.fault.InfoFault.TheVariants as infos
use Rattle.tpi_records.specs.Fault.{tpi_number}
use Rattle.tpi_records.specs.declared.fault.TpiFault.{TpiFault}
use Rattle.tpi_records.specs.declared.fault.TpiFault.TheVariants as tpi
use Rattle.cv_leaves.specs.Fault.{leaf_number}
use Rattle.cv_leaves.specs.declared.fault.LeafFault.{LeafFault}
use Rattle.cv_leaves.specs.declared.fault.LeafFault.TheVariants as leaves
use Rattle.checked_types.specs.Fault.{type_number}
use Rattle.checked_types.specs.declared.fault.TypeFault.{TypeFault}
use Rattle.checked_types.specs.declared.fault.TypeFault.TheVariants as types
use Rattle.file_types.specs.Fault.{pdb_number}
use Rattle.pdb_merge.specs.Fault.{merge_number}
use Rattle.pdb_merge.specs.declared.fault.MergeFault.{MergeFault}
use Rattle.pdb_merge.specs.declared.fault.MergeFault.TheVariants as merge
use Rattle.file_types.specs.declared.fault.PdbFault.{PdbFault}
use Rattle.file_types.specs.declared.fault.PdbFault.TheVariants as pdb

-- a number that a fault of bytes may have
abbrev pub IsKnown : ℕ → Type 0
IsKnown number = (1 ≤ number) × (number < 100)

pub msf_known : (fault : MsfFault) → IsKnown (msf_number fault)
msf_known msf.Short = (omega arith, omega arith)
msf_known msf.Magic = (omega arith, omega arith)
msf_known (msf.BlockSize _) = (omega arith, omega arith)
msf_known (msf.FreeMapBlock _) = (omega arith, omega arith)
msf_known (msf.FileSize _ _) = (omega arith, omega arith)
msf_known (msf.DirectorySize _) = (omega arith, omega arith)
msf_known (msf.BlockMapAddr _) = (omega arith, omega arith)
msf_known (msf.DirectoryBlock _ _) = (omega arith, omega arith)
msf_known (msf.DirectoryShort _ _) = (omega arith, omega arith)
msf_known (msf.StreamBlock _ _ _) = (omega arith, omega arith)
msf_known msf.Memory = (omega arith, omega arith)

stream_known : (fault : StreamFault) → IsKnown (stream_number fault)
stream_known (streams.NoStream _) = (omega arith, omega arith)
stream_known streams.Memory = (omega arith, omega arith)

pub info_known : (fault : InfoFault) → IsKnown (info_number fault)
info_known infos.InfoShort = (omega arith, omega arith)
info_known (infos.NamesShort _) = (omega arith, omega arith)
info_known (infos.NamesCount _ _) = (omega arith, omega arith)
info_known (infos.NameOffset _) = (omega arith, omega arith)
info_known infos.Memory = (omega arith, omega arith)

pub tpi_known : (fault : TpiFault) → IsKnown (tpi_number fault)
tpi_known tpi.Short = (omega arith, omega arith)
tpi_known (tpi.Version _) = (omega arith, omega arith)
tpi_known (tpi.HeaderSize _) = (omega arith, omega arith)
tpi_known (tpi.Begin _) = (omega arith, omega arith)
tpi_known (tpi.End _) = (omega arith, omega arith)
tpi_known (tpi.Bytes _ _) = (omega arith, omega arith)
tpi_known (tpi.RecordShort _) = (omega arith, omega arith)
tpi_known (tpi.RecordLen _ _) = (omega arith, omega arith)
tpi_known (tpi.RecordCount _ _) = (omega arith, omega arith)
tpi_known tpi.Memory = (omega arith, omega arith)

leaf_known : (fault : LeafFault) → IsKnown (leaf_number fault)
leaf_known (leaves.Leaf _) = (omega arith, omega arith)
leaf_known (leaves.Body _) = (omega arith, omega arith)
leaf_known (leaves.Member _ _) = (omega arith, omega arith)
leaf_known (leaves.Numeric _) = (omega arith, omega arith)
leaf_known (leaves.Name _) = (omega arith, omega arith)
leaf_known (leaves.Pad _) = (omega arith, omega arith)

type_known : {A : Type 0} → (fault : TypeFault A) → IsKnown (type_number fault)
type_known (types.Leaf _ fault) = leaf_known fault
type_known (types.Ref _ _ _) = (omega arith, omega arith)
type_known (types.Cycle _) = (omega arith, omega arith)
type_known types.Memory = (omega arith, omega arith)

pub pdb_known : {A : Type 0} → (fault : PdbFault A) → IsKnown (pdb_number fault)
pdb_known (pdb.Msf fault) = msf_known fault
pdb_known (pdb.Stream fault) = stream_known fault
pdb_known (pdb.Info fault) = info_known fault
pdb_known (pdb.Tpi fault) = tpi_known fault
pdb_known (pdb.Type fault) = type_known fault
pdb_known pdb.Memory = (omega arith, omega arith)

read_known : (fault : ReadFault) → IsKnown (read_number fault)
read_known reads.Read = (omega arith, omega arith)
read_known reads.TooLong = (omega arith, omega arith)
read_known reads.Memory = (omega arith, omega arith)

input_known : (fault : InputFault) → IsKnown (input_number fault)
input_known inputs.Open = (omega arith, omega arith)
input_known (inputs.Read fault) = read_known fault

pub merge_known : {A : Type 0} → (fault : MergeFault A) → IsKnown (merge_number fault)
merge_known (merge.Input _ fault) = input_known fault
merge_known (merge.Refused _ fault) = pdb_known fault
merge_known (merge.TooLarge _ _) = (omega arith, omega arith)
merge_known merge.Memory = (omega arith, omega arith)
