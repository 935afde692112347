use Rattle.std.proofs.Common.{◌≡◌, List, drop}
use Rattle.type_trees.specs.Tree.{Tree}
use Rattle.type_expressions.specs.Asked.{AreTrees, best, better}
use Rattle.type_expressions.proofs.asked.best_of.Given as goal

abbrev pub invariant-loop-position : goal.invariant-loop-position
invariant-loop-position g l = record {
  left : l.records ≡ drop l.position l.types;
  best : (trees : List Tree) → AreTrees l.types trees → better l.best (best l.query l.position (drop l.position trees)) ≡ best l.query 0 trees;
}
