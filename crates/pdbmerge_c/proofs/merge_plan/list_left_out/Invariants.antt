use Rattle.std.proofs.Common.{◌≡◌, map, take}
use Rattle.pdbmerge_c.specs.MergePlan.{entry_of}
use Rattle.pdbmerge_c.proofs.merge_plan.list_left_out.Given as goal

abbrev pub invariant-loop-one : goal.invariant-loop-one
invariant-loop-one l = l.list.items ≡ map entry_of (take l.one-index l.left_out)
