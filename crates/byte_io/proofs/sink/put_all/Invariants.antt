use Rattle.std.proofs.Common.{◌≡◌, ◌++◌, List, ℕ, length}
use Rattle.std.specs.Io.KnownBytes.{Appends}
use Rattle.byte_io.proofs.sink.put_all.Given as goal

abbrev pub invariant-loop-rest : goal.invariant-loop-rest
invariant-loop-rest g l =
    ((taken : List ℕ) × (l.bytes ≡ taken ++ l.rest) × Appends (g.W.Sink.taken l.initial.out) (g.W.Sink.taken l.out) taken)
    × (g.W.Sink.is_broken l.out ≡ g.W.Sink.is_broken l.initial.out)

abbrev pub decreases-loop-rest : goal.decreases-loop-rest
decreases-loop-rest g l = length l.rest
