use Rattle.std.proofs.Common.{◌≡◌, map}
use Rattle.pdb_info.specs.Names.{names_below}
use Rattle.pdb_info.specs.Name.{named}
use Rattle.pdb_info.proofs.map.NameMap.names.Given as goal

abbrev pub invariant-loop-k : goal.invariant-loop-k
invariant-loop-k g l = map named l.names.items ≡ names_below l.stream l.k
