use Rattle.std.proofs.Common.{◌≡◌}
use Rattle.type_table.proofs.OrderedLaws.{IsAdding}
use Rattle.type_table.proofs.adding.add_in_order.Given as goal

abbrev pub invariant-loop-position : goal.invariant-loop-position
invariant-loop-position g l = record {
  adding : IsAdding l.types l.position-iterator l.initial.records l.records l.numbers.items;
  cursor : l.cursor ≡ l.types;
}
