use Rattle.std.proofs.Common.{◌+◌, length, arith}
use Rattle.msf_streams.specs.Put.{woven_from, AppendsPart}
use Rattle.msf_streams.proofs.PutLaws.{at_err, still_same, rest_fails, run_more, places_left, all_taken}
use Rattle.msf_streams.proofs.image_writer.ImageWriter.put_bytes.Goals as goal

pub returns-in_err-count-clause-prefix : goal.returns-in_err-count-clause-prefix
returns-in_err-count-clause-prefix g c =
    let old = g.W.Sink.taken c.args.out.now in
    let between = g.W.Sink.taken c.loop-rest.out in
    let new = g.W.Sink.taken c.put_run.new.out in
    let all = woven_from c.args.self.now c.args.bytes.now in
    at_err (AppendsPart old new all) c.from_residual.result
    (rest_fails old between new c.loop-rest.self all c.loop-rest.rest.now c.loop-rest.invariant.taken c.in_err-count.ensures.prefix)

pub loop-rest-preserved : goal.loop-rest-preserved
loop-rest-preserved g c =
    let w = c.loop-rest.self in
    let v = c.put_run.new.self in
    let old = g.W.Sink.taken c.args.out.now in
    let between = g.W.Sink.taken c.loop-rest.out in
    let new = g.W.Sink.taken c.put_run.new.out in
    let all = woven_from c.args.self.now c.args.bytes.now in
    let rest = c.loop-rest.rest.now in
    let count = c.in_ok-count.count in
    let run = c.in_ok-count.ensures in
    record {
      same = still_same c.args.self.now w v c.loop-rest.invariant.same run.same;
      place = rw run.end (places_left w.position count (c.args.self.now.position + length c.args.bytes.now) rest c.loop-rest.invariant.place run.count.1);
      taken = run_more old between new w v all rest count run.count.1 c.loop-rest.invariant.taken run.ok run.same run.end;
    }

pub returns-clause-ok : goal.returns-clause-ok
returns-clause-ok g c =
    let old = g.W.Sink.taken c.args.out.now in
    let now = g.W.Sink.taken c.loop-rest.out in
    all_taken old now c.loop-rest.self (woven_from c.args.self.now c.args.bytes.now) c.loop-rest.rest.now c.loop-rest.invariant.taken (grind arith)
