-- The numbers of the faults of an info stream.
use Rattle.std.specs.Prelude.{ℕ}
use Rattle.pdb_info.specs.declared.fault.InfoFault.{InfoFault}
use Rattle.pdb_info.specs.declared.fault.InfoFault.TheVariants as infos

-- the number of a fault
abbrev pub info_number : InfoFault → ℕ
info_number infos.InfoShort = 12
info_number (infos.NamesShort _) = 13
info_number (infos.NamesCount _ _) = 14
info_number (infos.NameOffset _) = 15
info_number infos.Memory = 33
