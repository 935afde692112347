use Rattle.type_trees.specs.Depth.{CountsLevels}
use Rattle.type_trees.proofs.depth.levels_of.Given as goal

abbrev pub invariant-loop-position : goal.invariant-loop-position
invariant-loop-position l = CountsLevels l.depths l.position l.levels
