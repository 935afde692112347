use Rattle.std.proofs.Common.{◌≡◌, length}
use Rattle.checked_types.specs.Order.{order_list}
use Rattle.checked_types.proofs.MeasureLaws.{IsMeasuring}
use Rattle.checked_types.proofs.measure.measure.Given as goal

abbrev pub invariant-loop-position : goal.invariant-loop-position
invariant-loop-position g l = record {
  measuring : IsMeasuring l.records (order_list (length l.records) l.order) l.position-iterator l.depths.items;
  cursor : l.cursor ≡ l.records;
}
