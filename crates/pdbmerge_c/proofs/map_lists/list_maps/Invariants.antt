use Rattle.std.proofs.Common.{◌≡◌, length, map, take}
use Rattle.pdbmerge_c.specs.MergeMap.{indices_of}
use Rattle.pdbmerge_c.proofs.map_lists.list_maps.Given as goal

abbrev pub invariant-loop-file : goal.invariant-loop-file
invariant-loop-file l = record {
  indices : l.indices.items ≡ indices_of (take l.file l.maps);
  counts : l.counts.items ≡ map length (take l.file l.maps);
}
