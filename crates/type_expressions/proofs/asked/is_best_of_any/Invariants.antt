use Rattle.std.proofs.Common.{◌≡◌, drop}
use Rattle.std.specs.List.{list_any}
use Rattle.type_expressions.specs.Asked.{is_best, found_at}
use Rattle.type_expressions.proofs.asked.is_best_of_any.Given as goal

abbrev pub invariant-loop-one : goal.invariant-loop-one
invariant-loop-one l = record {
  left : list_any (λ a. is_best a.found (found_at a.query l.position l.«record»)) l.asked ≡ list_any (λ a. is_best a.found (found_at a.query l.position l.«record»)) (drop l.one-index l.asked);
}
