use Rattle.std.proofs.Common.{◌≡◌, ◌++◌, ◌+◌, ◌∙◌, take, length, arith}
use Rattle.std.proofs.lemmas.List.{length-append, length-take-le}
use Rattle.byte_io.proofs.InputLaws.{filled_front, made_longer}
use Rattle.byte_io.proofs.input.fetch_more.Goals as goal

pub returns-clause-value : goal.returns-clause-value
returns-clause-value g c =
    let came = c.in_ok-count.ensures.value in
    let old = c.args.file.now.items in
    let count = c.in_ok-count.count in
    let piece = c.fetch_piece.new.piece in
    let counted : length (take count piece) ≡ count = length-take-le count piece came.0 in
    let joined : c.truncate.new.self.items ≡ old ++ take count piece = c.truncate.ensures.items ∙ filled_front old c.deref_mut.result.now piece _ _ c.len-length.result count c.resize.new.self.len (omega (arith, c.len-length.ensures)) (rw (c.deref_mut.ensures.value, c.in_ok-resize.ensures.items, c.make_room.ensures.same) (made_longer old _ c.len-length.result (c.len-length.result + c.in_ok-room.room) (omega (arith, c.len-length.ensures)) (omega arith))) came.0 (grind arith) in
    record {
      bytes = take count piece;
      came = came.2;
      joined = joined;
      counted = counted;
      short = rw joined (omega (arith, came.1, counted, c.len-length.ensures, c.requires.short, length-append old (take count piece)));
      ended = came.3;
    }
