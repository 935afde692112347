use Rattle.std.proofs.Common.{◌≡◌, ◌++◌, take, string_bytes}
use Rattle.std.specs.List.{flat_map, slice_get}
use Rattle.msf_streams.specs.Streams.{blocks_in}
use Rattle.output_lines.specs.Streams.{blank_number}
use Rattle.output_lines.proofs.streams.push_blocks.Given as goal

abbrev pub invariant-loop-k : goal.invariant-loop-k
invariant-loop-k g l = string_bytes l.text ≡ string_bytes l.initial.text ++ flat_map blank_number (take l.k (blocks_in (slice_get l.layout.streams l.fn.s)))
