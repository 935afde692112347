-- The numbers of the faults of a TPI stream.
use Rattle.std.specs.Prelude.{ℕ}
use Rattle.tpi_records.specs.declared.fault.TpiFault.{TpiFault}
use Rattle.tpi_records.specs.declared.fault.TpiFault.TheVariants as tpi

-- the number of a fault
abbrev pub tpi_number : TpiFault → ℕ
tpi_number tpi.Short = 16
tpi_number (tpi.Version _) = 17
tpi_number (tpi.HeaderSize _) = 18
tpi_number (tpi.Begin _) = 19
tpi_number (tpi.End _) = 20
tpi_number (tpi.Bytes _ _) = 21
tpi_number (tpi.RecordShort _) = 22
tpi_number (tpi.RecordLen _ _) = 23
tpi_number (tpi.RecordCount _ _) = 24
tpi_number tpi.Memory = 33
