use Rattle.std.proofs.Common.{◌≡◌, ◌++◌, ℕ, List, map, filter, drop, length}
use Rattle.std.specs.List.{AllByRecursion}
use Rattle.type_trees.specs.Tree.{Tree}
use Rattle.type_expressions.specs.Asked.{AreTrees}
use Rattle.type_expressions.specs.Spans.{AreListed}
use Rattle.type_changes.specs.Definition.{definitions}
use Rattle.type_changes.specs.Seen.{IsInside, is_noted, seen_at}
use Rattle.type_changes.proofs.place.push_texts.Given as goal

abbrev pub invariant-loop-position : goal.invariant-loop-position
invariant-loop-position g l = record {
  lists : AreListed l.types l.text.items l.lists;
  inside : AllByRecursion (IsInside (length l.text.items)) l.places.items;
  kept : (more : List ℕ) × (l.text.items ≡ l.fn.text.items ++ more);
  told : (trees : List Tree) → AreTrees l.types trees → map (seen_at l.text.items) l.places.items ++ filter (is_noted (λ name. g.S.Hasher.Hasher.finish (g.S.Hasher.Hasher.write (g.S.BuildHasher.build_hasher l.hasher) name)) l.names.keys) (definitions (drop l.position trees))
      ≡ filter (is_noted (λ name. g.S.Hasher.Hasher.finish (g.S.Hasher.Hasher.write (g.S.BuildHasher.build_hasher l.hasher) name)) l.names.keys) (definitions trees);
}
