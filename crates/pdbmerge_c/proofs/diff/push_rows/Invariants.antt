use Rattle.std.proofs.Common.{◌≡◌, ◌≤◌, ◌-◌, ◌++◌, drop, length}
use Rattle.pdbmerge_c.specs.Diff.{rows_from}
use Rattle.pdbmerge_c.proofs.diff.push_rows.Given as goal

abbrev pub invariant-loop-position : goal.invariant-loop-position
invariant-loop-position l = record {
  inside : l.position ≤ length l.standings;
  rest : l.rows.items ++ rows_from l.input l.position (drop l.position l.standings) ≡ l.fn.rows.items ++ rows_from l.input 0 l.standings;
}

abbrev pub decreases-loop-position : goal.decreases-loop-position
decreases-loop-position l = length l.standings - l.position
