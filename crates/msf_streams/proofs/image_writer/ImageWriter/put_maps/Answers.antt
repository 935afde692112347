use Rattle.std.proofs.Common.{◌≡◌, ◌*◌, ◌+◌, ap}
use Rattle.std.specs.Io.KnownBytes.{Appends}
use Rattle.msf_blocks.specs.FreeMap.{map_block}
use Rattle.msf_streams.specs.Put.{WriterView, maps_of, AppendsPart}
use Rattle.msf_streams.proofs.PutLaws.{on_err, part_second}
use Rattle.msf_streams.proofs.image_writer.ImageWriter.put_maps.Goals as goal

pub returns-clause-prefix : goal.returns-clause-prefix
returns-clause-prefix g c =
    let w = c.args.self.now in
    let size : c.self.inside.block_size ≡ w.block_size = ap (λ (v : WriterView). v.block_size) c.self.view_is in
    let start = c.args.interval * w.block_size in
    let first = map_block w.block_size w.num_blocks (start + 1) in
    let second = map_block w.block_size w.num_blocks (start + 2) in
    let old = g.W.Sink.taken c.args.out.now in
    let between = g.W.Sink.taken c.put_map.new.out in
    let new = g.W.Sink.taken c.put_map-2.new.out in
    let before : Appends old between first = rw (c.bytes.ensures.value, size) at c.in_ok-put_map.ensures.ok in
    on_err (AppendsPart between new second) (AppendsPart old new (maps_of w.block_size w.num_blocks c.args.interval)) c.put_map-2.result (part_second old between new first second before)
    (rw (c.put_map.ensures.same, c.bytes.ensures.value, size) at c.put_map-2.ensures.prefix)
