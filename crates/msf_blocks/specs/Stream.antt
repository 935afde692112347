-- How contracts see the streams of a layout.
use Rattle.msf_blocks.specs.Directory.{Listed}
use Rattle.msf_blocks.specs.declared.layout.Stream.{Stream}

-- a stream as the directory lists it
abbrev pub listed_of : {A : Type 0} → Stream A → Listed
listed_of s = record { size = s.size; blocks = s.blocks.items }
