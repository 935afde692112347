use Rattle.std.proofs.Common.{◌≤◌, ◌-◌, take, length}
use Rattle.output_words.specs.Bounded.{ArePlain}
use Rattle.output_words.proofs.plain.plain_blocks.Given as goal

abbrev pub invariant-tested : goal.invariant-tested
invariant-tested l = record {
  inside : l.count ≤ length l.bytes;
  plain : ArePlain (take l.count l.bytes);
}

abbrev pub decreases-tested : goal.decreases-tested
decreases-tested l = length l.bytes - l.count
