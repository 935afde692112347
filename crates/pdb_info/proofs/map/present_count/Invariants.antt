use Rattle.std.proofs.Common.{◌≡◌, ◌*◌, ◌≤◌}
use Rattle.pdb_info.specs.Names.{numbers_at, present_count}
use Rattle.pdb_info.proofs.map.present_count.Given as goal

abbrev pub invariant-loop-w : goal.invariant-loop-w
invariant-loop-w l = record {
  value : l.present ≡ present_count (numbers_at l.stream l.fn.start l.w);
  few : l.present ≤ 32 * l.w;
}
