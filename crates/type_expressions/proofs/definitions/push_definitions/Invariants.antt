use Rattle.std.proofs.Common.{◌≡◌, ◌++◌, List, drop}
use Rattle.std.specs.List.{concat}
use Rattle.type_trees.specs.Tree.{Tree}
use Rattle.type_expressions.specs.Asked.{AreTrees, shown_texts}
use Rattle.type_expressions.specs.Spans.{AreListed}
use Rattle.type_expressions.proofs.definitions.push_definitions.Given as goal

abbrev pub invariant-loop-position : goal.invariant-loop-position
invariant-loop-position g l = record {
  lists : AreListed l.types l.text.items l.lists;
  left : l.records ≡ drop l.position l.types;
  texts : (trees : List Tree) → AreTrees l.types trees → l.text.items ++ concat (shown_texts l.asked l.position (drop l.position trees)) ≡ l.fn.text.items ++ concat (shown_texts l.asked 0 trees);
}
