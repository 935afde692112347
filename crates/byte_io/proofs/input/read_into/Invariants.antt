use Rattle.std.proofs.Common.{◌≤◌, length}
use Rattle.std.specs.Io.KnownBytes.{Consumes}
use Rattle.byte_io.proofs.input.read_into.Given as goal

abbrev pub invariant-loop-turn : goal.invariant-loop-turn
invariant-loop-turn g l = record {
  came : Consumes (g.R.Source.left l.initial.input) (g.R.Source.left l.input) l.file.items;
  short : length l.file.items ≤ l.limit;
  turns : l.turn ≤ length l.file.items;
}
