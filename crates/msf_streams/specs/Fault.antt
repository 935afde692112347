-- The numbers of the faults of streams and of images.
use Rattle.std.specs.Prelude.{ℕ}
use Rattle.msf_streams.specs.declared.fault.StreamFault.{StreamFault}
use Rattle.msf_streams.specs.declared.fault.StreamFault.TheVariants as streams
use Rattle.msf_streams.specs.declared.fault.WriteFault.{WriteFault}
use Rattle.msf_streams.specs.declared.fault.WriteFault.TheVariants as write

-- the number of a fault of a stream
abbrev pub stream_number : StreamFault → ℕ
stream_number (streams.NoStream _) = 11
stream_number streams.Memory = 33

-- the number of a fault of an image
abbrev pub write_number : WriteFault → ℕ
write_number write.Image = 35
write_number write.Memory = 33
write_number write.Write = 36
