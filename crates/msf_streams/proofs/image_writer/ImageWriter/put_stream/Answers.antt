use Rattle.std.proofs.Common.{◌≡◌, ◌+◌, ◌++◌, length, arith, ap}
use Rattle.std.specs.List.{concat}
use Rattle.std.specs.Io.KnownBytes.{Appends}
use Rattle.std.proofs.lemmas.List.{length-append}
use Rattle.msf_streams.specs.Image.{padded, joined}
use Rattle.msf_streams.specs.Put.{WriterView, woven_from, AppendsPart}
use Rattle.msf_streams.proofs.PutLaws.{at_err, on_ok, on_err, filled_after, filled_longer, part_fails, fill_fails, part_taken}
use Rattle.msf_streams.proofs.image_writer.ImageWriter.put_stream.Given.{Over}
use Rattle.msf_streams.proofs.image_writer.ImageWriter.put_stream.Goals.{After-zeros-fill}
use Rattle.msf_streams.proofs.image_writer.ImageWriter.put_stream.Goals as goal

-- the bytes of the stream, and what fills their last block, are the padded stream
filled : (g : Over) (c : After-zeros-fill g) → padded c.args.self.now.block_size (joined c.args.parts.now ++ concat c.args.texts.now) ≡ (joined c.args.parts.now ++ concat c.args.texts.now) ++ c.zeros-fill.result.now
filled g c =
    let put = c.in_ok-put_contents.ensures in
    filled_after c.args.self.now c.put_contents.new.self _ _ (joined c.args.parts.now ++ concat c.args.texts.now) c.zeros-fill.result.now c.fill_len.result c.self.view_is c.self-2.view_is put.same put.end c.fill_len.ensures.value c.zeros-fill.ensures

pub put_contents-requires : goal.put_contents-requires
put_contents-requires g c = record { few = omega (arith, c.requires.few, filled_longer c.args.self.now.block_size (joined c.args.parts.now ++ concat c.args.texts.now)) }

pub returns-in_err-put_contents-clause-prefix : goal.returns-in_err-put_contents-clause-prefix
returns-in_err-put_contents-clause-prefix g c =
    let w = c.args.self.now in
    let bytes = (joined c.args.parts.now ++ concat c.args.texts.now) in
    let old = g.W.Sink.taken c.args.out.now in
    let new = g.W.Sink.taken c.put_contents.new.out in
    at_err (AppendsPart old new (woven_from w (padded w.block_size bytes))) c.from_residual.result
    (part_fails old new w.block_size w.num_blocks w.position bytes c.in_err-put_contents.ensures.prefix)

pub fill_len-requires : goal.fill_len-requires
fill_len-requires g c =
    let end = ap (λ (v : WriterView). v.position) c.self-2.view_is in
    omega (arith, end, c.in_ok-put_contents.ensures.end, c.requires.few, filled_longer c.args.self.now.block_size (joined c.args.parts.now ++ concat c.args.texts.now))

pub put_bytes-requires : goal.put_bytes-requires
put_bytes-requires g c =
    let is = filled g (goal.at.put_bytes-requires g c).After-zeros-fill in
    record { few = omega (arith, c.in_ok-put_contents.ensures.end, c.requires.few, ap length is, length-append (joined c.args.parts.now ++ concat c.args.texts.now) c.zeros-fill.result.now) }

pub returns-clause-end : goal.returns-clause-end
returns-clause-end g c =
    let w = c.args.self.now in
    let v = c.put_contents.new.self in
    let bytes = (joined c.args.parts.now ++ concat c.args.texts.now) in
    let fill = c.zeros-fill.result.now in
    let is = filled g (goal.at.returns-clause-end g c).After-zeros-fill in
    let end = c.put_bytes.new.self.position in
    on_ok (end ≡ v.position + length fill) (end ≡ w.position + length (padded w.block_size bytes)) c.put_bytes.result (λ e. omega (arith, e, c.in_ok-put_contents.ensures.end, ap length is, length-append bytes fill)) c.put_bytes.ensures.end

pub returns-clause-ok : goal.returns-clause-ok
returns-clause-ok g c =
    let w = c.args.self.now in
    let bytes = (joined c.args.parts.now ++ concat c.args.texts.now) in
    let put = c.in_ok-put_contents.ensures in
    let is = filled g (goal.at.returns-clause-ok g c).After-zeros-fill in
    let old = g.W.Sink.taken c.args.out.now in
    let between = g.W.Sink.taken c.put_contents.new.out in
    let new = g.W.Sink.taken c.put_bytes.new.out in
    on_ok (Appends between new (woven_from c.put_contents.new.self c.zeros-fill.result.now)) (Appends old new (woven_from w (padded w.block_size bytes))) c.put_bytes.result
    (λ h. part_taken old between new w.block_size w.num_blocks w.position bytes c.zeros-fill.result.now is put.ok (rw (put.same.block_size, put.same.num_blocks, put.end) at h)) c.put_bytes.ensures.ok

pub returns-clause-prefix : goal.returns-clause-prefix
returns-clause-prefix g c =
    let w = c.args.self.now in
    let stream = (joined c.args.parts.now ++ concat c.args.texts.now) in
    let is = filled g (goal.at.returns-clause-prefix g c).After-zeros-fill in
    let first = c.in_ok-put_contents.ensures in
    let old = g.W.Sink.taken c.args.out.now in
    let between = g.W.Sink.taken c.put_contents.new.out in
    let new = g.W.Sink.taken c.put_bytes.new.out in
    on_err (AppendsPart between new (woven_from c.put_contents.new.self c.zeros-fill.result.now)) (AppendsPart old new (woven_from w (padded w.block_size stream))) c.put_bytes.result
    (λ h. fill_fails old between new w.block_size w.num_blocks w.position stream c.zeros-fill.result.now is first.ok (rw (first.same.block_size, first.same.num_blocks, first.end) at h)) c.put_bytes.ensures.prefix
