use Rattle.std.proofs.Common.{◌-◌}
use Rattle.type_expressions.proofs.SpanLaws.{WalkSoFar}
use Rattle.type_expressions.proofs.lists.walk_lists.Given as goal

abbrev pub invariant-loop : goal.invariant-loop
invariant-loop g l = record {
  so_far : WalkSoFar l.types l.to (l.end - l.counter) l.next l.fn.text.items l.text.items l.spans l.walk.items;
}
