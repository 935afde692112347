use Rattle.std.proofs.Common.{◌≡◌, ◌++◌, map, take}
use Rattle.pdbmerge_c.specs.Members.{asked_by}
use Rattle.pdbmerge_c.proofs.members.push_asked.Given as goal

abbrev pub invariant-loop-name : goal.invariant-loop-name
invariant-loop-name l = l.asked.items ≡ l.fn.asked.items ++ map asked_by (take l.name-index l.names)
