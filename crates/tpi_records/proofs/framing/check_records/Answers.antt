use Rattle.std.proofs.Common.{arith, ◌++◌, ◌∷◌, [], take, drop, ap, length}
use Rattle.std.proofs.lemmas.List.{length_push, length-take}
use Rattle.tpi_records.proofs.FramingLaws.{Begins-more}
use Rattle.tpi_records.proofs.CutLaws.{ends, framed_in, found_in}
use Rattle.tpi_records.proofs.TableLaws.{both_true, seen_length, starts_more}
use Rattle.tpi_records.proofs.framing.check_records.Goals as goal

pub loop-start-preserved : goal.loop-start-preserved
loop-start-preserved g c =
    let ok = c.in_ok-start.ensures in
    let bytes = c.args.bytes.now in
    let start = c.loop-start.start in
    let whole = c.in_ok-start.field-0 in
    let next = take whole (drop start bytes) in
    let so_far = c.loop-start.invariant.begins in
    let at = seen_length bytes so_far.0 start c.loop-start.invariant.inside so_far.1 in
    record {
      inside = omega (arith, ok.inside);
      few = omega (arith, c.loop-start.invariant.few, ok.value.long, length-take whole (drop start bytes));
      begins = (
        so_far.0 ++ next ∷ [],
        Begins-more bytes so_far.0 start whole so_far.1 ok.value,
        omega (arith, so_far.2, length_push so_far.0 next),
        λ kept.
            let both = both_true c.loop-start.kept c.keep_start.result kept in
            starts_more so_far.0 next c.loop-start.starts.items _ c.loop-start.found so_far.2 (so_far.3 both.0) (rw at (c.keep_start.ensures both.1)),
      );
    }

pub returns-clause-framed : goal.returns-clause-framed
returns-clause-framed g c =
    let so_far = c.loop-start.invariant.begins in framed_in c.args.bytes.now so_far.0 (ends c.args.bytes.now so_far.0 c.loop-start.start c.loop-start-test.false so_far.1) c.requires.short

pub returns-clause-counted : goal.returns-clause-counted
returns-clause-counted g c =
    let so_far = c.loop-start.invariant.begins in
    let all = found_in c.args.bytes.now so_far.0 (ends c.args.bytes.now so_far.0 c.loop-start.start c.loop-start-test.false so_far.1) in
    omega (arith, c.if-found-said.false, so_far.2, ap length all)

pub returns-clause-starts : goal.returns-clause-starts
returns-clause-starts g c =
    let so_far = c.loop-start.invariant.begins in
    let all = found_in c.args.bytes.now so_far.0 (ends c.args.bytes.now so_far.0 c.loop-start.start c.loop-start-test.false so_far.1) in
    λ kept. rw (all, ← c.if-found-said.false) (so_far.3 kept)
