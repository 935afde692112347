use Rattle.std.proofs.Common.{◌≡◌, ◌≤◌, ◌+◌, take, length}
use Rattle.output_words.specs.Bounded.{ArePlain}
use Rattle.output_words.proofs.plain.plain_run.Given as goal

abbrev pub invariant-loop-byte : goal.invariant-loop-byte
invariant-loop-byte l = record {
  at : l.count ≡ l.blocks + l.byte-index;
  inside : l.count ≤ length l.bytes;
  plain : ArePlain (take l.count l.bytes);
}
