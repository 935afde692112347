use Rattle.std.proofs.Common.{◌≡◌, ◌<◌, ◌∙◌, min, length, ap, arith}
use Rattle.msf_streams.specs.Put.{WriterView, room, woven_from, AppendsPart}
use Rattle.msf_streams.proofs.PutLaws.{at_err, fails_before, fails_within, run_taken, run_count}
use Rattle.msf_streams.proofs.image_writer.ImageWriter.put_run.Given.{Over}
use Rattle.msf_streams.proofs.image_writer.ImageWriter.put_run.Goals.{After-min-count}
use Rattle.msf_streams.proofs.image_writer.ImageWriter.put_run.Goals as goal

-- a block has more than three bytes, and the run goes to the next map blocks, or to the end of the bytes
short_run : (g : Over) (c : After-min-count g) → (3 < c.args.self.now.block_size) × (c.min-count.result ≡ min (room c.args.self.now.block_size c.args.self.now.position) (length c.args.bytes.now))
short_run g c =
    let same = c.self.view_is ∙ c.put_maps_before.ensures.same in
    let size : c.self.inside.block_size ≡ c.args.self.now.block_size = ap (λ (v : WriterView). v.block_size) same in
    let place : c.self.inside.position ≡ c.args.self.now.position = ap (λ (v : WriterView). v.position) same in
    (rw size at c.room.ensures.big, omega (arith, c.min-count.ensures, rw (size, place) at c.room.ensures.value))

pub returns-in_err-put_maps_before-clause-prefix : goal.returns-in_err-put_maps_before-clause-prefix
returns-in_err-put_maps_before-clause-prefix g c =
    let w = c.args.self.now in
    let old = g.W.Sink.taken c.args.out.now in
    let new = g.W.Sink.taken c.put_maps_before.new.out in
    let bytes = c.args.bytes.now in
    at_err (AppendsPart old new (woven_from w bytes)) c.from_residual.result
    (fails_before old new w.block_size w.num_blocks w.position bytes c.requires.some c.in_err-put_maps_before.ensures.prefix)

pub returns-in_err-put_all-clause-prefix : goal.returns-in_err-put_all-clause-prefix
returns-in_err-put_all-clause-prefix g c =
    let w = c.args.self.now in
    let old = g.W.Sink.taken c.args.out.now in
    let new = g.W.Sink.taken c.put_all.new.out in
    let run = short_run g (goal.at.returns-in_err-put_all-clause-prefix g c).After-min-count in
    at_err (AppendsPart old new (woven_from w c.args.bytes.now)) c.from_residual-in_err-put_all.result
    (fails_within old (g.W.Sink.taken c.put_maps_before.new.out) new w.block_size w.num_blocks w.position c.min-count.result c.args.bytes.now run.0 c.requires.some run.1 c.in_ok-put_maps_before.ensures.ok c.in_err-put_all.ensures.prefix)

pub returns-clause-count : goal.returns-clause-count
returns-clause-count g c =
    run_count c.self.inside.block_size c.self.inside.position c.min-count.result c.args.bytes.now c.room.ensures.big c.requires.some (omega (arith, c.min-count.ensures, c.room.ensures.value))

pub returns-clause-ok : goal.returns-clause-ok
returns-clause-ok g c =
    let w = c.args.self.now in
    let run = short_run g (goal.at.returns-clause-ok g c).After-min-count in
    run_taken (g.W.Sink.taken c.args.out.now) (g.W.Sink.taken c.put_maps_before.new.out) (g.W.Sink.taken c.put_all.new.out) w.block_size w.num_blocks w.position c.min-count.result c.args.bytes.now run.0 c.requires.some run.1
    c.in_ok-put_maps_before.ensures.ok c.in_ok-put_all.ensures.ok
