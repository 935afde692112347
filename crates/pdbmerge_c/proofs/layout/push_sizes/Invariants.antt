use Rattle.std.proofs.Common.{◌≡◌, map, take}
use Rattle.msf_blocks.specs.Directory.{bytes_of}
use Rattle.pdbmerge_c.proofs.layout.push_sizes.Given as goal

abbrev pub invariant-loop-s : goal.invariant-loop-s
invariant-loop-s l = l.sizes.items ≡ map (λ stream. bytes_of stream.size) (take l.s l.layout.streams)
