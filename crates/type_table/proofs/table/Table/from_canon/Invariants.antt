use Rattle.std.proofs.Common.{◌≡◌, take}
use Rattle.type_table.proofs.table.Table.from_canon.Given as goal

abbrev pub invariant-loop-position : goal.invariant-loop-position
invariant-loop-position g l = l.records ≡ take l.position l.canon
