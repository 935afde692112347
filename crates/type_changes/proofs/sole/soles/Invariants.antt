use Rattle.std.proofs.Common.{map, take}
use Rattle.type_changes.specs.Seen.{AreSoles, seen}
use Rattle.type_changes.proofs.sole.soles.Given as goal

abbrev pub invariant-loop-told : goal.invariant-loop-told
invariant-loop-told g l = AreSoles l.soles (take l.told-index (map seen l.all))
