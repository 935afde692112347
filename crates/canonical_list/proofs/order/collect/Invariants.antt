use Rattle.std.proofs.Common.{◌≡◌, ◌<◌, length, get_or}
use Rattle.std.specs.Prelude.{IfSome}
use Rattle.std.specs.List.{All}
use Rattle.canonical_list.specs.Rows.{HasHead, positions, row}
use Rattle.canonical_list.specs.Finish.{RowsMade}
use Rattle.canonical_list.proofs.LinkLaws.{bound}
use Rattle.canonical_list.proofs.FinishLaws.{Collected}
use Rattle.canonical_list.proofs.order.collect.Given as goal

abbrev pub invariant-loop-candidate : goal.invariant-loop-candidate
invariant-loop-candidate g l = record {
  here : IfSome l.candidate (λ k. (k < length l.depths) × (get_or l.depths k 0 ≡ l.level));
  found : Collected l.depths l.level (bound l.candidate) (positions l.rows.items);
  made : RowsMade l.initial.records l.records (λ k. get_or l.numbers k 0) (positions l.rows.items);
  heads : All (λ p. HasHead 0 p.head (row l.initial.records (λ k. get_or l.numbers k 0) p.position)) l.rows.items;
}

abbrev pub decreases-loop-candidate : goal.decreases-loop-candidate
decreases-loop-candidate g l = bound l.candidate
