use Rattle.std.proofs.Common.{◌<◌, length, rules}
use Rattle.std.proofs.lemmas.Result.{err_from_is_err_and}
use Rattle.type_table.specs.Maps.{kept_maps}
use Rattle.merge_commands.proofs.MapsLaws.{took_part, took_first}
use Rattle.merge_commands.proofs.maps.write_maps.Goals as goal

pub returns-in_err-write_map-clause-write : goal.returns-in_err-write_map-clause-write
returns-in_err-write_map-clause-write g c = λ is.
    let p = err_from_is_err_and c.from_residual.result c.from_residual.ensures.1 in
    let did = rw (p.1, p.2) at is in
    let wrote = c.in_err-write_map.ensures.write did in
    let inside : c.loop-file.file < length (kept_maps (g.K.KeepMaps.maps c.args.maps.now)) = search rules in
    (wrote.0, took_part (g.W.Sink.taken c.args.out.now) (g.W.Sink.taken c.loop-file.out) (g.W.Sink.taken c.write_map.new.out) (kept_maps (g.K.KeepMaps.maps c.args.maps.now)) c.loop-file.file inside c.loop-file.invariant (rw c.map_of.ensures.value at wrote.1))

pub returns-in_err-write_map-clause-memory : goal.returns-in_err-write_map-clause-memory
returns-in_err-write_map-clause-memory g c = λ is.
    let p = err_from_is_err_and c.from_residual.result c.from_residual.ensures.1 in
    let did = rw (p.1, p.2) at is in
    rw (c.in_err-write_map.ensures.untouched did) (took_first (g.W.Sink.taken c.args.out.now) (g.W.Sink.taken c.loop-file.out) (kept_maps (g.K.KeepMaps.maps c.args.maps.now)) c.loop-file.file c.loop-file.invariant)
