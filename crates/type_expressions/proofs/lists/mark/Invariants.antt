use Rattle.std.proofs.Common.{◌≡◌, ℕ, length}
use Rattle.type_expressions.specs.Spans.{IsMarked}
use Rattle.type_expressions.proofs.lists.mark.Given as goal

abbrev pub invariant-loop-begun : goal.invariant-loop-begun
invariant-loop-begun l = record {
  many : length l.spans ≡ length l.fn.spans;
  marks : (i : ℕ) → IsMarked l.fn.spans l.spans l.walk l.end i;
}
