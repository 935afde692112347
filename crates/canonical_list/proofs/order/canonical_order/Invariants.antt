use Rattle.canonical_list.proofs.FinishLaws.{IsListing}
use Rattle.canonical_list.proofs.order.canonical_order.Given as goal

abbrev pub invariant-loop-level : goal.invariant-loop-level
invariant-loop-level g l = IsListing l.initial.records l.records l.depths l.level l.order.items l.numbers.items
