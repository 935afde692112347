use Rattle.std.proofs.Common.{◌+◌, ◌*◌, ◌-◌, length}
use Rattle.canonical_list.proofs.SortLaws.{IsSorting}
use Rattle.canonical_list.proofs.sort.+sort_rows.Given as goal

abbrev pub decreases-sort_tied : goal.decreases-sort_tied
decreases-sort_tied g l = 2 * l.rounds

abbrev pub decreases-sort_rows : goal.decreases-sort_rows
decreases-sort_rows g l = 2 * l.rounds + 1

abbrev pub invariant-sort_rows-loop-start : goal.invariant-sort_rows-loop-start
invariant-sort_rows-loop-start g l = IsSorting l.next l.rows l.initial.run l.start l.run

abbrev pub decreases-sort_rows-loop-start : goal.decreases-sort_rows-loop-start
decreases-sort_rows-loop-start g l = length l.initial.run - l.start
