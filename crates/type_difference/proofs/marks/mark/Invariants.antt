use Rattle.std.proofs.Common.{◌≡◌, take, length}
use Rattle.type_difference.specs.Marks.{AreMarks}
use Rattle.type_difference.proofs.marks.mark.Given as goal

abbrev pub invariant-loop-number : goal.invariant-loop-number
invariant-loop-number g l = record {
  many : length l.marks.items ≡ l.end;
  marked : AreMarks (take l.number-index l.numbers) l.marks.items;
}
