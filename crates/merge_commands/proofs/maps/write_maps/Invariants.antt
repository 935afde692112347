use Rattle.type_table.specs.Maps.{kept_maps}
use Rattle.merge_commands.proofs.MapsLaws.{TookMaps}
use Rattle.merge_commands.proofs.maps.write_maps.Given as goal

abbrev pub invariant-loop-file : goal.invariant-loop-file
invariant-loop-file g l = TookMaps (g.W.Sink.taken l.fn.out) (g.W.Sink.taken l.out) (kept_maps (g.K.KeepMaps.maps l.maps)) l.file
