use Rattle.std.proofs.Common.{◌≡◌, take}
use Rattle.std.specs.List.{flat_map}
use Rattle.pdbmerge_c.proofs.layout.push_blocks.Given as goal

abbrev pub invariant-loop-s : goal.invariant-loop-s
invariant-loop-s l = l.blocks.items ≡ flat_map (λ stream. stream.blocks) (take l.s l.layout.streams)
