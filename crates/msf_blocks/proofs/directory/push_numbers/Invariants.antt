use Rattle.std.proofs.Common.{◌≡◌, ◌++◌, take}
use Rattle.byte_fields.specs.Number.{u32s}
use Rattle.msf_blocks.proofs.directory.push_numbers.Given as goal

abbrev pub invariant-loop-number : goal.invariant-loop-number
invariant-loop-number g l = l.bytes.items ≡ l.initial.bytes.items ++ u32s (take l.number-index l.numbers)
