use Rattle.std.proofs.Common.{◌≡◌, ◌+◌, ◌-◌, ◌<◌}
use Rattle.canonical_list.specs.Rows.{AreAlike, HaveHeads, positions, row_bytes}
use Rattle.canonical_list.proofs.sort.pass_shared.Given as goal

abbrev pub invariant-loop-at : goal.invariant-loop-at
invariant-loop-at g l = record {
  same : positions l.run ≡ positions l.fn.run;
  alike : AreAlike l.at (row_bytes l.rows l.run);
  heads : HaveHeads l.at l.rows l.run;
  near : l.at < l.from + 65544;
}

abbrev pub decreases-loop-at : goal.decreases-loop-at
decreases-loop-at g l = l.from + 65544 - l.at
