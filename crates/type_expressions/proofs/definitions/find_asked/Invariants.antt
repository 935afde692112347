use Rattle.std.proofs.Common.{◌≡◌, ◌++◌, List, take, drop, map}
use Rattle.type_trees.specs.Tree.{Tree}
use Rattle.type_expressions.specs.Asked.{AreTrees, answered}
use Rattle.type_expressions.proofs.definitions.find_asked.Given as goal

abbrev pub invariant-loop-k : goal.invariant-loop-k
invariant-loop-k g l = record {
  so_far : (trees : List Tree) → AreTrees l.types trees → l.asked ≡ map (answered trees) (take l.k l.fn.asked) ++ drop l.k l.fn.asked;
}
