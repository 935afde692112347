use Rattle.std.proofs.Common.{◌≡◌, ◌++◌, map, drop, filter, not}
use Rattle.type_changes.specs.Lone.{has}
use Rattle.type_changes.specs.Seen.{seen}
use Rattle.type_changes.proofs.lone.lone.Given as goal

abbrev pub invariant-loop-told : goal.invariant-loop-told
invariant-loop-told g l =
    map seen l.lone.items ++ filter (λ d. not (has (map seen l.theirs.keys) d)) (drop l.told-index (map seen l.fn.ours.keys)) ≡ filter (λ d. not (has (map seen l.theirs.keys) d)) (map seen l.fn.ours.keys)
