use Rattle.std.proofs.Common.{◌≡◌, ◌≤◌, ◌+◌, ◌*◌, ◌++◌, ℕ, List, [], map, length, take}
use Rattle.std.specs.List.{AllByRecursion}
use Rattle.cv_leaves.specs.Checks.{body_of, places_of}
use Rattle.type_expressions.specs.Field.{number_in}
use Rattle.type_expressions.specs.Told.{nothing_words, strung}
use Rattle.type_expressions.specs.Expression.{AreToldAt, IsNamed}
use Rattle.type_expressions.proofs.expression.+words.Given as goal

abbrev pub decreases-push_words : goal.decreases-push_words
decreases-push_words g l = 4 * l.deep

abbrev pub decreases-push_at : goal.decreases-push_at
decreases-push_at g l = 4 * l.deep + 1

abbrev pub decreases-push_each : goal.decreases-push_each
decreases-push_each g l = 4 * l.deep + 2

abbrev pub decreases-push_record : goal.decreases-push_record
decreases-push_record g l = 4 * l.deep + 3

abbrev pub invariant-push_each-loop-place : goal.invariant-push_each-loop-place
invariant-push_each-loop-place g l = record {
  short : length l.text.items ≤ l.end;
  value : (at : ℕ → List ℕ) → AreToldAt l.types l.deep l.record at
      → AllByRecursion (λ p. IsNamed (nothing_words l.record) l.types l.deep (number_in 4 (body_of l.record) p) (at p)) l.place-iterator
      × (take l.end (l.text.items ++ strung l.before l.separator (map at l.place-iterator)) ≡ take l.end (l.fn.text.items ++ strung [] l.separator (map at (places_of l.record))));
}
