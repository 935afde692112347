use Rattle.std.proofs.Common.{◌≡◌, true, take}
use Rattle.output_words.specs.Bounded.{ArePlain}
use Rattle.output_words.proofs.plain.is_plain_block.Given as goal

abbrev pub invariant-loop-byte : goal.invariant-loop-byte
invariant-loop-byte l = l.plain ≡ true → ArePlain (take l.byte-index l.block)
