use Rattle.std.proofs.Common.{◌+◌, ◌<◌, ◌≤◌, Bor, List, ℕ, [], arith, drop, length, rules}
use Rattle.std.specs.List.{flat_map}
use Rattle.msf_streams.specs.Image.{padded}
use Rattle.msf_streams.specs.Put.{woven_from, AppendsPart}
use Rattle.msf_streams.specs.Write.{with_texts}
use Rattle.msf_streams.proofs.PutLaws.{at_err, still_same, next_place, next_fits, none_left, next_not_put, next_put, all_taken, contents_at, contents_many}
use Rattle.msf_streams.proofs.image_writer.ImageWriter.put_streams.Goals as goal

-- a placeholder for a position where there is no stream
abbrev no_stream : Bor (List (Bor (List ℕ)))
no_stream = record { ref_ptr = (0, 0); now = [] }

pub put_stream-requires : goal.put_stream-requires
put_stream-requires g c =
    let w = c.args.self.now in
    let streams = c.args.streams.now in
    let texts = c.args.texts.now in
    let xs = with_texts streams texts in
    let s = c.loop-s.s in
    let image = c.loop-s.invariant.same in
    let inside : s < length streams = search rules in
    let at = contents_at streams texts c.args.none.now s no_stream c.texts_after.result.now c.requires.none inside c.texts_after.ensures.here c.texts_after.ensures.elsewhere in
    let end = w.position + length (flat_map (padded w.block_size) xs) in
    record { few = rw (image.block_size, ← at) (next_fits (padded w.block_size) xs s [] c.loop-s.self.position end (omega (arith, inside, contents_many streams texts)) c.loop-s.invariant.place c.requires.few) }

pub returns-in_err-put_stream-clause-prefix : goal.returns-in_err-put_stream-clause-prefix
returns-in_err-put_stream-clause-prefix g c =
    let w = c.args.self.now in
    let streams = c.args.streams.now in
    let texts = c.args.texts.now in
    let xs = with_texts streams texts in
    let s = c.loop-s.s in
    let inside : s < length streams = search rules in
    let at = contents_at streams texts c.args.none.now s no_stream c.texts_after.result.now c.requires.none inside c.texts_after.ensures.here c.texts_after.ensures.elsewhere in
    let old = g.W.Sink.taken c.args.out.now in
    let new = g.W.Sink.taken c.put_stream.new.out in
    let all = woven_from w (flat_map (padded w.block_size) xs) in
    at_err (AppendsPart old new all) c.from_residual.result
    (next_not_put old (g.W.Sink.taken c.loop-s.out) new (λ x. x) w.block_size c.loop-s.self xs s [] all (omega (arith, inside, contents_many streams texts)) c.loop-s.invariant.same.block_size c.loop-s.invariant.taken (rw (← at) at c.in_err-put_stream.ensures.prefix))

pub loop-s-preserved : goal.loop-s-preserved
loop-s-preserved g c =
    let w = c.args.self.now in
    let v = c.loop-s.self in
    let u = c.put_stream.new.self in
    let streams = c.args.streams.now in
    let texts = c.args.texts.now in
    let xs = with_texts streams texts in
    let s = c.loop-s.s in
    let image = c.loop-s.invariant.same in
    let put = c.in_ok-put_stream.ensures in
    let inside : s < length streams = search rules in
    let in_xs : s < length xs = omega (arith, inside, contents_many streams texts) in
    let at = contents_at streams texts c.args.none.now s no_stream c.texts_after.result.now c.requires.none inside c.texts_after.ensures.here c.texts_after.ensures.elsewhere in
    let end = w.position + length (flat_map (padded w.block_size) xs) in
    let put_end = rw (← at) at put.end in
    record {
      same = still_same w v u image put.same;
      place = rw (put_end, image.block_size) (next_place (padded w.block_size) xs s [] v.position end in_xs c.loop-s.invariant.place);
      taken = next_put (g.W.Sink.taken c.args.out.now) (g.W.Sink.taken c.loop-s.out) (g.W.Sink.taken c.put_stream.new.out) (λ x. x) w.block_size v u xs s [] (woven_from w (flat_map (padded w.block_size) xs)) in_xs
          image.block_size c.loop-s.invariant.taken (rw (← at) at put.ok) put.same put_end;
    }

pub returns-clause-ok : goal.returns-clause-ok
returns-clause-ok g c =
    let w = c.args.self.now in
    let streams = c.args.streams.now in
    let texts = c.args.texts.now in
    let xs = with_texts streams texts in
    let all = woven_from w (flat_map (padded w.block_size) xs) in
    let past : length streams ≤ c.loop-s.s = search rules in
    all_taken (g.W.Sink.taken c.args.out.now) (g.W.Sink.taken c.loop-s.out) c.loop-s.self all (flat_map (padded w.block_size) (drop c.loop-s.s xs)) c.loop-s.invariant.taken (none_left (padded w.block_size) xs c.loop-s.s (omega (arith, past, contents_many streams texts)))
