use Rattle.std.proofs.Common.{◌≡◌, drop, length, get_or}
use Rattle.cv_leaves.specs.Checks.{places_of}
use Rattle.type_table.proofs.GuessLaws.{Becomes, IsLeft}
use Rattle.type_table.proofs.becomes.becomes.Given as goal

abbrev pub invariant-loop-place : goal.invariant-loop-place
invariant-loop-place l = record {
  same : length l.bytes ≡ length l.entry;
  left : IsLeft l.from (drop l.place-index l.places) (length l.entry);
  rest : Becomes (length l.numbers) (λ k. get_or l.numbers k 0) l.bytes l.entry l.from (drop l.place-index l.places) → Becomes (length l.numbers) (λ k. get_or l.numbers k 0) l.bytes l.entry 0 (places_of l.entry);
}
