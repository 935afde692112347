use Rattle.std.proofs.Common.{◌≡◌, ◌++◌, map, drop, filter, not}
use Rattle.type_changes.specs.Lone.{distinct, has}
use Rattle.type_changes.specs.Seen.{seen, seen_at}
use Rattle.type_changes.proofs.lone.distinct.Given as goal

abbrev pub invariant-loop-place : goal.invariant-loop-place
invariant-loop-place g l =
    map seen l.all.keys ++ filter (λ d. not (has (map seen l.all.keys) d)) (distinct (drop l.place-index (map (seen_at l.text) l.places))) ≡ distinct (map (seen_at l.text) l.places)
