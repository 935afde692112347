use Rattle.std.proofs.Common.{◌≡◌, map}
use Rattle.std.specs.List.{range_with_len}
use Rattle.byte_fields.specs.Number.{nth_u32}
use Rattle.msf_blocks.proofs.directory_at.numbers_in.Given as goal

abbrev pub invariant-loop-k : goal.invariant-loop-k
invariant-loop-k g l = l.numbers.items ≡ map (nth_u32 l.bytes) (range_with_len 0 l.k)
