use Rattle.std.proofs.Common.{◌∷◌, refl}
use Rattle.std.specs.Io.KnownBytes.{Appends}
use Rattle.msf_streams.specs.Image.{image}
use Rattle.msf_streams.specs.Put.{AppendsPart}
use Rattle.msf_streams.specs.Write.{with_texts}
use Rattle.msf_streams.proofs.PutLaws.{HasPut, at_err, on_ok, on_err, none_put, next_part_fits, next_part_put, next_part_fails, all_parts_fit, all_parts_put, all_parts_fail}
use Rattle.msf_streams.proofs.write.put_image.Given.{Over}
use Rattle.msf_streams.proofs.write.put_image.Goals.{In_ok-put_part, In_ok-put_part-2, In_ok-put_part-3}
use Rattle.msf_streams.proofs.write.put_image.Goals as goal

-- the superblock was put
one_put : (g : Over) (c : In_ok-put_part g) → HasPut (g.W.Sink.taken c.args.out.now) (g.W.Sink.taken c.put_part.new.out) c.args.writer.now c.put_part.new.self (with_texts c.args.streams.now c.args.texts.now) (c.args.front.now.block_map.items ∷ c.args.front.now.directory.items ∷ with_texts c.args.streams.now c.args.texts.now)
one_put g c =
    let sb = c.args.front.now.superblock in
    let put = c.in_ok-put_part.ensures in
    next_part_put _ _ _ c.args.writer.now c.args.writer.now c.put_part.new.self (with_texts c.args.streams.now c.args.texts.now) _ sb sb refl
    (none_put (g.W.Sink.taken c.args.out.now) c.args.writer.now (with_texts c.args.streams.now c.args.texts.now) sb c.args.front.now.block_map.items c.args.front.now.directory.items c.requires.front c.requires.start) put.ok put.same put.end

-- the block map was put too
two_put : (g : Over) (c : In_ok-put_part-2 g) → HasPut (g.W.Sink.taken c.args.out.now) (g.W.Sink.taken c.put_part.new.out) c.args.writer.now c.put_part.new.self (with_texts c.args.streams.now c.args.texts.now) (c.args.front.now.block_map.items ∷ c.args.front.now.directory.items ∷ with_texts c.args.streams.now c.args.texts.now)
    → HasPut (g.W.Sink.taken c.args.out.now) (g.W.Sink.taken c.put_part-2.new.out) c.args.writer.now c.put_part-2.new.self (with_texts c.args.streams.now c.args.texts.now) (c.args.front.now.directory.items ∷ with_texts c.args.streams.now c.args.texts.now)
two_put g c before =
    let put = c.in_ok-put_part-2.ensures in
    next_part_put _ _ _ c.args.writer.now c.put_part.new.self c.put_part-2.new.self (with_texts c.args.streams.now c.args.texts.now) _ c.args.front.now.block_map.items c.deref.result.now c.deref.ensures.value before put.ok put.same put.end

-- the directory was put too
three_put : (g : Over) (c : In_ok-put_part-3 g) → HasPut (g.W.Sink.taken c.args.out.now) (g.W.Sink.taken c.put_part-2.new.out) c.args.writer.now c.put_part-2.new.self (with_texts c.args.streams.now c.args.texts.now) (c.args.front.now.directory.items ∷ with_texts c.args.streams.now c.args.texts.now)
    → HasPut (g.W.Sink.taken c.args.out.now) (g.W.Sink.taken c.put_part-3.new.out) c.args.writer.now c.put_part-3.new.self (with_texts c.args.streams.now c.args.texts.now) (with_texts c.args.streams.now c.args.texts.now)
three_put g c before =
    let put = c.in_ok-put_part-3.ensures in
    next_part_put _ _ _ c.args.writer.now c.put_part-2.new.self c.put_part-3.new.self (with_texts c.args.streams.now c.args.texts.now) _ c.args.front.now.directory.items c.deref-2.result.now c.deref-2.ensures.value before put.ok put.same put.end

pub put_part-requires : goal.put_part-requires
put_part-requires g c =
    let sb = c.args.front.now.superblock in
    let before = none_put (g.W.Sink.taken c.args.out.now) c.args.writer.now (with_texts c.args.streams.now c.args.texts.now) sb c.args.front.now.block_map.items c.args.front.now.directory.items c.requires.front c.requires.start in
    record { none = c.requires.none; few = next_part_fits _ _ _ c.args.writer.now _ _ sb sb refl before }

pub returns-in_err-put_part-clause-prefix : goal.returns-in_err-put_part-clause-prefix
returns-in_err-put_part-clause-prefix g c =
    let sb = c.args.front.now.superblock in
    let before = none_put (g.W.Sink.taken c.args.out.now) c.args.writer.now (with_texts c.args.streams.now c.args.texts.now) sb c.args.front.now.block_map.items c.args.front.now.directory.items c.requires.front c.requires.start in
    at_err (AppendsPart (g.W.Sink.taken c.args.out.now) (g.W.Sink.taken c.put_part.new.out) (image c.args.writer.now.block_size (with_texts c.args.streams.now c.args.texts.now))) c.from_residual.result
    (next_part_fails _ _ _ _ c.args.writer.now _ _ sb sb refl before c.in_err-put_part.ensures.prefix)

pub put_part-requires-2 : goal.put_part-requires-2
put_part-requires-2 g c =
    let at = goal.at.put_part-requires-2 g c in
    record { none = c.requires.none; few = next_part_fits _ _ _ c.put_part.new.self _ _ _ c.deref.result.now c.deref.ensures.value (one_put g at.In_ok-put_part) }

pub returns-in_err-put_part-2-clause-prefix : goal.returns-in_err-put_part-2-clause-prefix
returns-in_err-put_part-2-clause-prefix g c =
    let at = goal.at.returns-in_err-put_part-2-clause-prefix g c in
    at_err (AppendsPart (g.W.Sink.taken c.args.out.now) (g.W.Sink.taken c.put_part-2.new.out) (image c.args.writer.now.block_size (with_texts c.args.streams.now c.args.texts.now))) c.from_residual-in_err-put_part-2.result
    (next_part_fails _ _ _ _ c.put_part.new.self _ _ _ c.deref.result.now c.deref.ensures.value (one_put g at.In_ok-put_part) c.in_err-put_part-2.ensures.prefix)

pub put_part-requires-3 : goal.put_part-requires-3
put_part-requires-3 g c =
    let at = goal.at.put_part-requires-3 g c in
    record { none = c.requires.none; few = next_part_fits _ _ _ c.put_part-2.new.self _ _ _ c.deref-2.result.now c.deref-2.ensures.value (two_put g at.In_ok-put_part-2 (one_put g at.In_ok-put_part)) }

pub returns-in_err-put_part-3-clause-prefix : goal.returns-in_err-put_part-3-clause-prefix
returns-in_err-put_part-3-clause-prefix g c =
    let at = goal.at.returns-in_err-put_part-3-clause-prefix g c in
    at_err (AppendsPart (g.W.Sink.taken c.args.out.now) (g.W.Sink.taken c.put_part-3.new.out) (image c.args.writer.now.block_size (with_texts c.args.streams.now c.args.texts.now))) c.from_residual-in_err-put_part-3.result
    (next_part_fails _ _ _ _ c.put_part-2.new.self _ _ _ c.deref-2.result.now c.deref-2.ensures.value (two_put g at.In_ok-put_part-2 (one_put g at.In_ok-put_part)) c.in_err-put_part-3.ensures.prefix)

pub put_streams-requires : goal.put_streams-requires
put_streams-requires g c =
    let at = goal.at.put_streams-requires g c in
    record { none = c.requires.none; few = all_parts_fit _ _ _ c.put_part-3.new.self _ _ (three_put g at.In_ok-put_part-3 (two_put g at.In_ok-put_part-2 (one_put g at.In_ok-put_part))) }

pub returns-clause-ok : goal.returns-clause-ok
returns-clause-ok g c =
    let at = goal.at.returns-clause-ok g c in
    let before = three_put g at.In_ok-put_part-3 (two_put g at.In_ok-put_part-2 (one_put g at.In_ok-put_part)) in
    on_ok _ (Appends (g.W.Sink.taken c.args.out.now) (g.W.Sink.taken c.put_streams.new.out) (image c.args.writer.now.block_size (with_texts c.args.streams.now c.args.texts.now))) c.put_streams.result
    (all_parts_put _ _ _ _ c.put_part-3.new.self _ _ before) c.put_streams.ensures.ok

pub returns-clause-prefix : goal.returns-clause-prefix
returns-clause-prefix g c =
    let at = goal.at.returns-clause-prefix g c in
    let before = three_put g at.In_ok-put_part-3 (two_put g at.In_ok-put_part-2 (one_put g at.In_ok-put_part)) in
    on_err _ (AppendsPart (g.W.Sink.taken c.args.out.now) (g.W.Sink.taken c.put_streams.new.out) (image c.args.writer.now.block_size (with_texts c.args.streams.now c.args.texts.now))) c.put_streams.result
    (all_parts_fail _ _ _ _ c.put_part-3.new.self _ _ before) c.put_streams.ensures.prefix
