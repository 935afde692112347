use Rattle.std.proofs.Common.{◌≡◌, [], get_or, take}
use Rattle.std.specs.List.{All}
use Rattle.canonical_list.specs.Rows.{HasHead, positions}
use Rattle.canonical_list.proofs.sort.set_heads.Given as goal

abbrev pub invariant-loop-row : goal.invariant-loop-row
invariant-loop-row g l = record {
  same : positions l.run ≡ positions l.initial.run;
  heads : All (λ p. HasHead l.from p.head (get_or l.rows p.position [])) (take l.row-index l.run);
}
