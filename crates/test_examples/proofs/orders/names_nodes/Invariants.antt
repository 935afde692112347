use Rattle.std.proofs.Common.{◌<◌, [], ℕ, length, get_or}
use Rattle.std.specs.List.{All}
use Rattle.test_examples.proofs.orders.names_nodes.Given as goal

abbrev pub invariant-loop-node : goal.invariant-loop-node
invariant-loop-node g l = (i : ℕ) → i < l.node → All (λ n. n < length l.graph) (get_or l.graph i [])
