use Rattle.msf_streams.specs.Image.{joined}
use Rattle.msf_streams.specs.Put.{woven_from, AppendsPart}
use Rattle.msf_streams.proofs.PutLaws.{at_err, still_same, next_place, none_left, next_fails, next_taken, all_taken}
use Rattle.msf_streams.proofs.image_writer.ImageWriter.put_joined.Goals as goal

pub returns-in_err-put_bytes-clause-prefix : goal.returns-in_err-put_bytes-clause-prefix
returns-in_err-put_bytes-clause-prefix g c =
    let old = g.W.Sink.taken c.args.out.now in
    let between = g.W.Sink.taken c.loop-part.out in
    let new = g.W.Sink.taken c.put_bytes.new.out in
    let all = woven_from c.args.self.now (joined c.args.parts.now) in
    at_err (AppendsPart old new all) c.from_residual.result
    (next_fails old between new (λ p. p.now) c.loop-part.self c.args.parts.now c.loop-part.part-index _ all c.loop-part-test.true c.loop-part.invariant.taken c.in_err-put_bytes.ensures.prefix)

pub loop-part-preserved : goal.loop-part-preserved
loop-part-preserved g c =
    let w = c.loop-part.self in
    let v = c.put_bytes.new.self in
    let old = g.W.Sink.taken c.args.out.now in
    let between = g.W.Sink.taken c.loop-part.out in
    let new = g.W.Sink.taken c.put_bytes.new.out in
    let all = woven_from c.args.self.now (joined c.args.parts.now) in
    let put = c.in_ok-put_bytes.ensures in
    record {
      same = still_same c.args.self.now w v c.loop-part.invariant.same put.same;
      place = rw put.end (next_place (λ p. p.now) c.args.parts.now c.loop-part.part-index _ w.position _ c.loop-part-test.true c.loop-part.invariant.place);
      taken = next_taken old between new (λ p. p.now) w v c.args.parts.now c.loop-part.part-index _ all c.loop-part-test.true c.loop-part.invariant.taken put.ok put.same put.end;
    }

pub returns-clause-ok : goal.returns-clause-ok
returns-clause-ok g c =
    let old = g.W.Sink.taken c.args.out.now in
    let now = g.W.Sink.taken c.loop-part.out in
    all_taken old now c.loop-part.self (woven_from c.args.self.now (joined c.args.parts.now)) _ c.loop-part.invariant.taken (none_left (λ p. p.now) c.args.parts.now c.loop-part.part-index c.loop-part-test.false)
