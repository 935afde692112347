use Rattle.std.proofs.Common.{◌≡◌}
use Rattle.pdb_info.specs.Names.{numbers_at}
use Rattle.pdb_info.proofs.map.NameMap.features.Given as goal

abbrev pub invariant-loop-k : goal.invariant-loop-k
invariant-loop-k g l = l.features.items ≡ numbers_at l.stream l.start l.k
