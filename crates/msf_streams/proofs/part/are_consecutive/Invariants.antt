use Rattle.std.proofs.Common.{◌≡◌, ℕ, ◌+◌, ◌<◌, get_or}
use Rattle.std.specs.List.{slice_get}
use Rattle.msf_streams.specs.Streams.{blocks_in}
use Rattle.msf_streams.proofs.part.are_consecutive.Given as goal

abbrev pub invariant-loop-k : goal.invariant-loop-k
invariant-loop-k g l = (j : ℕ) → j < l.k → get_or (blocks_in (slice_get l.layout.streams l.s)) j 0 ≡ l.first + j
