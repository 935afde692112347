use Rattle.std.specs.List.{AllByRecursion}
use Rattle.cv_leaves.specs.References.{references}
use Rattle.cv_leaves.specs.FieldList.{IsWholeMember}
use Rattle.type_trees.specs.Tree.{Branches, AreBranches}
use Rattle.type_expressions.proofs.LinesLaws.{OwnSoFar}
use Rattle.type_expressions.proofs.lines.push_own.Given as goal

abbrev pub invariant-loop-member : goal.invariant-loop-member
invariant-loop-member g l = record {
  whole : AllByRecursion IsWholeMember l.member-iterator;
  told : (bs : Branches) → AreBranches l.types (references l.list) bs → OwnSoFar l.types l.list bs l.member-iterator l.fn.text.items l.text.items l.next;
}
