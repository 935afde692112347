use Rattle.std.proofs.Common.{◌≡◌, ◌+◌, ◌≤◌, ℕ, List, length}
use Rattle.std.specs.Io.KnownBytes.{Consumes}
use Rattle.byte_io.proofs.input.skip_all.Given as goal

abbrev pub invariant-loop-turn : goal.invariant-loop-turn
invariant-loop-turn g l = record {
  bytes : List ℕ;
  consumed : Consumes (g.R.Source.left l.initial.input) (g.R.Source.left l.input) bytes;
  room : length bytes + l.room ≡ l.limit;
  turns : l.turn ≤ length bytes;
}
