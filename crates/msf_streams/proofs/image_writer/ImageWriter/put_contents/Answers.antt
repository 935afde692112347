use Rattle.std.proofs.Common.{◌≡◌, ◌+◌, ◌++◌, arith, length}
use Rattle.std.proofs.lemmas.List.{length-append}
use Rattle.std.specs.Io.KnownBytes.{Appends}
use Rattle.std.specs.List.{concat}
use Rattle.msf_streams.specs.Image.{joined}
use Rattle.msf_streams.specs.Put.{woven_from, AppendsPart}
use Rattle.msf_streams.proofs.PutLaws.{Halfway, at_err, on_err, on_ok, first_fails, first_taken, nothing_put, rest_fails, rest_taken}
use Rattle.msf_streams.proofs.image_writer.ImageWriter.put_contents.Given.{Over}
use Rattle.msf_streams.proofs.image_writer.ImageWriter.put_contents.Goals.{In_ok-put_joined}
use Rattle.msf_streams.proofs.image_writer.ImageWriter.put_contents.Goals as goal

-- the parts were put, and the texts are left
parts_put : (g : Over) (c : In_ok-put_joined g) → Halfway (g.W.Sink.taken c.args.out.now) (g.W.Sink.taken c.put_joined.new.out) c.put_joined.new.self (woven_from c.args.self.now (joined c.args.parts.now ++ concat c.args.texts.now)) (concat c.args.texts.now)
parts_put g c =
    let w = c.args.self.now in
    let x = joined c.args.parts.now in
    let y = concat c.args.texts.now in
    let old = g.W.Sink.taken c.args.out.now in
    let put = c.in_ok-put_joined.ensures in
    first_taken old old (g.W.Sink.taken c.put_joined.new.out) w c.put_joined.new.self (woven_from w (x ++ y)) x y (nothing_put old w (x ++ y)) put.ok put.same put.end

pub put_joined-requires : goal.put_joined-requires
put_joined-requires g c = record { few = omega (arith, c.requires.few, length-append (joined c.args.parts.now) (concat c.args.texts.now)) }

pub returns-in_err-put_joined-clause-prefix : goal.returns-in_err-put_joined-clause-prefix
returns-in_err-put_joined-clause-prefix g c =
    let w = c.args.self.now in
    let x = joined c.args.parts.now in
    let y = concat c.args.texts.now in
    let old = g.W.Sink.taken c.args.out.now in
    let new = g.W.Sink.taken c.put_joined.new.out in
    at_err (AppendsPart old new (woven_from w (x ++ y))) c.from_residual.result (first_fails old old new w (woven_from w (x ++ y)) x y (nothing_put old w (x ++ y)) c.in_err-put_joined.ensures.prefix)

pub put_texts-requires : goal.put_texts-requires
put_texts-requires g c = record { few = omega (arith, c.requires.few, c.in_ok-put_joined.ensures.end, length-append (joined c.args.parts.now) (concat c.args.texts.now)) }

pub returns-clause-end : goal.returns-clause-end
returns-clause-end g c =
    let w = c.args.self.now in
    let v = c.put_joined.new.self in
    let x = joined c.args.parts.now in
    let y = concat c.args.texts.now in
    let end = c.put_texts.new.self.position in
    on_ok (end ≡ v.position + length y) (end ≡ w.position + length (x ++ y)) c.put_texts.result (λ e. omega (arith, e, c.in_ok-put_joined.ensures.end, length-append x y)) c.put_texts.ensures.end

pub returns-clause-ok : goal.returns-clause-ok
returns-clause-ok g c =
    let at = goal.at.returns-clause-ok g c in
    let y = concat c.args.texts.now in
    let v = c.put_joined.new.self in
    let all = woven_from c.args.self.now (joined c.args.parts.now ++ y) in
    let old = g.W.Sink.taken c.args.out.now in
    let between = g.W.Sink.taken c.put_joined.new.out in
    let new = g.W.Sink.taken c.put_texts.new.out in
    on_ok (Appends between new (woven_from v y)) (Appends old new all) c.put_texts.result (rest_taken old between new v all y (parts_put g at.In_ok-put_joined)) c.put_texts.ensures.ok

pub returns-clause-prefix : goal.returns-clause-prefix
returns-clause-prefix g c =
    let at = goal.at.returns-clause-prefix g c in
    let y = concat c.args.texts.now in
    let v = c.put_joined.new.self in
    let all = woven_from c.args.self.now (joined c.args.parts.now ++ y) in
    let old = g.W.Sink.taken c.args.out.now in
    let between = g.W.Sink.taken c.put_joined.new.out in
    let new = g.W.Sink.taken c.put_texts.new.out in
    on_err (AppendsPart between new (woven_from v y)) (AppendsPart old new all) c.put_texts.result (rest_fails old between new v all y (parts_put g at.In_ok-put_joined)) c.put_texts.ensures.prefix
