use Rattle.std.proofs.Common.{◌≡◌, ◌++◌, map, take}
use Rattle.pdbmerge_c.proofs.info.push_numbers.Given as goal

abbrev pub invariant-loop-name : goal.invariant-loop-name
invariant-loop-name l = l.numbers.items ≡ l.fn.numbers.items ++ map (λ name. name.stream) (take l.name-index l.names)
