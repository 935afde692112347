use Rattle.std.proofs.Common.{◌≡◌, length}
use Rattle.type_trees.specs.Depth.{KnowsDepths}
use Rattle.type_table.specs.Merge.{StartsWith}
use Rattle.type_table.proofs.table_depths.measure_new.Given as goal

abbrev pub invariant-loop-position : goal.invariant-loop-position
invariant-loop-position g l = record {
  many : length l.depths.items ≡ l.position;
  known : KnowsDepths l.table l.depths.items;
  front : StartsWith l.depths.items l.initial.depths.items;
}
