use Rattle.std.proofs.Common.{◌≡◌, ◌+◌, ◌++◌, ◌<◌, ◌≤◌, ◌∙◌, [], ap, arith, drop, get_or, length, rules}
use Rattle.std.proofs.lemmas.List.{length-append}
use Rattle.std.specs.List.{concat}
use Rattle.msf_streams.specs.Put.{woven_from, AppendsPart}
use Rattle.msf_streams.proofs.PutLaws.{Halfway, at_err, on_err, still_same, first_fails, first_taken, rest_fails, text_here, text_waits, chunk_left}
use Rattle.msf_streams.proofs.image_writer.ImageWriter.put_texts.Given.{Over}
use Rattle.msf_streams.proofs.image_writer.ImageWriter.put_texts.Goals.{In_ok-put_bytes, then-not-collect+in_ok-put_bytes+in_ok-put_bytes-2, else-not-collect}
use Rattle.msf_streams.proofs.image_writer.ImageWriter.put_texts.Goals as goal

-- the chunk was put, and the next text and those after it are left
chunk_put : (g : Over) (c : In_ok-put_bytes g) → Halfway (g.W.Sink.taken c.args.out.now) (g.W.Sink.taken c.put_bytes.new.out) c.put_bytes.new.self (woven_from c.args.self.now (concat c.args.texts.now))
    (get_or c.args.texts.now c.loop-position.position [] ++ concat (drop (c.loop-position.position + 1) c.args.texts.now))
chunk_put g c =
    let texts = c.args.texts.now in
    let k = c.loop-position.position in
    let inside : k < length texts = search rules in
    let chunk = c.loop-position.chunk.items in
    let same : c.collect.new.chunk.items ≡ chunk = search rules in
    let bytes : c.deref.result.now ≡ chunk = c.deref.ensures.value ∙ same in
    let put = c.in_ok-put_bytes.ensures in
    rw (← text_here texts k inside) (first_taken (g.W.Sink.taken c.args.out.now) (g.W.Sink.taken c.loop-position.out) (g.W.Sink.taken c.put_bytes.new.out) c.loop-position.self c.put_bytes.new.self (woven_from c.args.self.now (concat texts)) chunk (concat (drop k texts))
    c.loop-position.invariant.taken (rw bytes at put.ok) put.same (rw bytes at put.end))

pub returns-in_err-put_bytes-clause-prefix : goal.returns-in_err-put_bytes-clause-prefix
returns-in_err-put_bytes-clause-prefix g c =
    let texts = c.args.texts.now in
    let chunk = c.loop-position.chunk.items in
    let same : c.collect.new.chunk.items ≡ chunk = search rules in
    let bytes : c.deref.result.now ≡ chunk = c.deref.ensures.value ∙ same in
    let old = g.W.Sink.taken c.args.out.now in
    let new = g.W.Sink.taken c.put_bytes.new.out in
    let all = woven_from c.args.self.now (concat texts) in
    at_err (AppendsPart old new all) c.from_residual.result
    (first_fails old (g.W.Sink.taken c.loop-position.out) new c.loop-position.self all chunk (concat (drop c.loop-position.position texts)) c.loop-position.invariant.taken (rw bytes at c.in_err-put_bytes.ensures.prefix))

pub returns-in_err-put_bytes-2-clause-prefix : goal.returns-in_err-put_bytes-2-clause-prefix
returns-in_err-put_bytes-2-clause-prefix g c =
    let texts = c.args.texts.now in
    let k = c.loop-position.position in
    let at = goal.at.returns-in_err-put_bytes-2-clause-prefix g c in
    let old = g.W.Sink.taken c.args.out.now in
    let new = g.W.Sink.taken c.put_bytes-then-not-collect.new.out in
    let all = woven_from c.args.self.now (concat texts) in
    at_err (AppendsPart old new all) c.from_residual-in_err-put_bytes-2.result
    (first_fails old (g.W.Sink.taken c.put_bytes.new.out) new c.put_bytes.new.self all (get_or texts k []) (concat (drop (k + 1) texts)) (chunk_put g at.In_ok-put_bytes) (rw c.get-text.ensures at c.in_err-put_bytes-2.ensures.prefix))

pub loop-position-preserved : goal.loop-position-preserved
loop-position-preserved g c =
    let texts = c.args.texts.now in
    let k = c.loop-position.position in
    let inside : k < length texts = search rules in
    let chunk = c.loop-position.chunk.items in
    let text = get_or texts k [] in
    let rest = concat (drop (k + 1) texts) in
    let first = c.args.self.now in
    let v = c.loop-position.self in
    let all = woven_from first (concat texts) in
    let old = g.W.Sink.taken c.args.out.now in
    let so_far = c.loop-position.invariant in
    elim c.if-not-collect.branch [
      | then-not-collect+in_ok-put_bytes+in_ok-put_bytes-2 w ↦
          let same : c.collect.new.chunk.items ≡ chunk = search rules in
          let bytes : w.deref.result.now ≡ chunk = w.deref.ensures.value ∙ same in
          let put = w.in_ok-put_bytes.ensures in
          let one : Halfway old (g.W.Sink.taken w.put_bytes.new.out) w.put_bytes.new.self all (text ++ rest) =
          rw (← text_here texts k inside) (first_taken old (g.W.Sink.taken c.loop-position.out) (g.W.Sink.taken w.put_bytes.new.out) v w.put_bytes.new.self all chunk (concat (drop k texts)) so_far.taken (rw bytes at put.ok) put.same (rw bytes at put.end)) in
          let next = w.in_ok-put_bytes-2.ensures in
          let end = rw c.get-text.ensures at next.end in
          let two = first_taken old (g.W.Sink.taken w.put_bytes.new.out) (g.W.Sink.taken w.put_bytes-then-not-collect.new.out) w.put_bytes.new.self w.put_bytes-then-not-collect.new.self all text rest one (rw c.get-text.ensures at next.ok) next.same end in
          record {
            same = rw w.self-is (still_same first w.put_bytes.new.self w.put_bytes-then-not-collect.new.self (still_same first v w.put_bytes.new.self so_far.same put.same) next.same);
            place = rw (w.self-is, w.chunk-is, w.clear-then-not-collect.ensures.items) (omega (arith, so_far.place, rw bytes at put.end, end, length-append chunk (concat (drop k texts)), ap length (text_here texts k inside), length-append text rest));
            taken = rw (w.self-is, w.out-is, w.chunk-is, w.clear-then-not-collect.ensures.items) two;
          }
      | else-not-collect w ↦
          let more : c.collect.new.chunk.items ≡ chunk ++ text = rw (c.get-text.ensures, c.load.ensures) at (c.collect.ensures.fits (search rules)) in
          record {
            same = rw w.self-is so_far.same;
            place = rw (w.self-is, w.chunk-is, more, text_waits chunk texts k inside) so_far.place;
            taken = rw (w.self-is, w.out-is, w.chunk-is, more, text_waits chunk texts k inside) so_far.taken;
          }
    ]

pub returns-clause-prefix : goal.returns-clause-prefix
returns-clause-prefix g c =
    let texts = c.args.texts.now in
    let chunk = c.loop-position.chunk.items in
    let past : length texts ≤ c.loop-position.position = search rules in
    let old = g.W.Sink.taken c.args.out.now in
    let between = g.W.Sink.taken c.loop-position.out in
    let new = g.W.Sink.taken c.put_bytes-2.new.out in
    let all = woven_from c.args.self.now (concat texts) in
    let left = rw (chunk_left chunk texts c.loop-position.position past) at c.loop-position.invariant.taken in
    on_err (AppendsPart between new (woven_from c.loop-position.self c.deref-2.result.now)) (AppendsPart old new all) c.put_bytes-2.result
    (λ h. rest_fails old between new c.loop-position.self all chunk left (rw c.deref-2.ensures.value at h)) c.put_bytes-2.ensures.prefix
