-- The numbers of the faults of inputs.
use Rattle.std.specs.Prelude.{ℕ}
use Rattle.byte_io.specs.declared.input.ReadFault.{ReadFault}
use Rattle.byte_io.specs.declared.input.ReadFault.TheVariants as reads
use Rattle.byte_io.specs.declared.inputs.InputFault.{InputFault}
use Rattle.byte_io.specs.declared.inputs.InputFault.TheVariants as inputs

-- the number of a fault of reading
abbrev pub read_number : ReadFault → ℕ
read_number reads.Read = 37
read_number reads.TooLong = 38
read_number reads.Memory = 33

-- the number of a fault of an input
abbrev pub input_number : InputFault → ℕ
input_number inputs.Open = 40
input_number (inputs.Read fault) = read_number fault
