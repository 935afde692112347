use Rattle.std.proofs.Common.{◌≡◌, ◌<◌, ◌++◌, ◌^◌, ℕ, length, take, get_or}
use Rattle.canonical_list.specs.Rows.{positions}
use Rattle.canonical_list.specs.Finish.{Numbered}
use Rattle.canonical_list.proofs.order.number_rows.Given as goal

abbrev pub invariant-loop-row : goal.invariant-loop-row
invariant-loop-row g l = record {
  order : l.order.items ≡ l.initial.order.items ++ positions (take l.row-index l.rows);
  numbered : Numbered (positions l.rows) (length l.initial.order.items) l.row-index l.initial.numbers l.numbers;
  same : length l.numbers ≡ length l.initial.numbers;
  bounded : (k : ℕ) → get_or l.numbers k 0 < 2 ^ 31;
}
