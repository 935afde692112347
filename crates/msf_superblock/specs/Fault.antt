-- The numbers of the faults of a container.
use Rattle.std.specs.Prelude.{ℕ}
use Rattle.msf_superblock.specs.declared.fault.MsfFault.{MsfFault}
use Rattle.msf_superblock.specs.declared.fault.MsfFault.TheVariants as msf

-- the number of a fault
abbrev pub msf_number : MsfFault → ℕ
msf_number msf.Short = 1
msf_number msf.Magic = 2
msf_number (msf.BlockSize _) = 3
msf_number (msf.FreeMapBlock _) = 4
msf_number (msf.FileSize _ _) = 5
msf_number (msf.DirectorySize _) = 6
msf_number (msf.BlockMapAddr _) = 7
msf_number (msf.DirectoryBlock _ _) = 8
msf_number (msf.DirectoryShort _ _) = 9
msf_number (msf.StreamBlock _ _ _) = 10
msf_number msf.Memory = 33
