use Rattle.std.proofs.Common.{◌≤◌, ◌+◌, map, length}
use Rattle.std.specs.Prelude.{◌↔◌}
use Rattle.std.specs.List.{AllByRecursion}
use Rattle.cv_leaves.specs.References.{reference_at, references}
use Rattle.type_trees.specs.Types.{NamesThere}
use Rattle.type_difference.specs.Marks.{NamesMarked}
use Rattle.type_difference.proofs.marks.names_marked.Given as goal

-- all references are marked exactly if those that are left are
abbrev pub invariant-loop-place : goal.invariant-loop-place
invariant-loop-place l = record {
  rest : AllByRecursion (NamesMarked l.numbers l.marks) (map (reference_at l.bytes) l.place-iterator) ↔ AllByRecursion (NamesMarked l.numbers l.marks) (references l.bytes);
  fit : AllByRecursion (λ p. p + 8 ≤ length l.bytes) l.place-iterator;
  there : NamesThere (length l.numbers) (map (reference_at l.bytes) l.place-iterator);
}
