use Rattle.std.proofs.Common.{arith, take, ◌++◌, ◌∙◌}
use Rattle.std.proofs.KnownBytes.{Appends-trans}
use Rattle.byte_io.proofs.SinkLaws.{taken_more, prefix_is}
use Rattle.byte_io.proofs.sink.put_all.Goals as goal

pub returns-then-count-eq0-clause-prefix : goal.returns-then-count-eq0-clause-prefix
returns-then-count-eq0-clause-prefix g c =
    let so_far = c.loop-rest.invariant.0 in
    prefix_is _ (g.W.Sink.taken c.loop-rest.out) _ c.args.bytes.now c.loop-rest.rest.now so_far.0 c.put-count.result so_far.1
    (grind arith) c.if-count-eq0.true so_far.2 c.put-count.ensures.takes

pub loop-rest-preserved : goal.loop-rest-preserved
loop-rest-preserved g c =
    let so_far = c.loop-rest.invariant.0 in
    let rest = c.loop-rest.rest.now in
    let n = c.put-count.result in (
      (
        so_far.0 ++ take n rest,
        taken_more c.args.bytes.now rest so_far.0 n so_far.1,
        Appends-trans _ (g.W.Sink.taken c.loop-rest.out) _ so_far.0 (take n rest) so_far.2 c.put-count.ensures.takes,
      ),
      c.put-count.ensures.whole (grind arith) ∙ c.loop-rest.invariant.1,
    )
