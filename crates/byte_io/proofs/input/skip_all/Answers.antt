use Rattle.std.proofs.Common.{◌++◌, ◌<◌, take, arith, sym}
use Rattle.std.proofs.KnownBytes.{Consumes-trans}
use Rattle.std.proofs.lemmas.List.{length-append, length-take}
use Rattle.std.proofs.lemmas.Result.{err_from_is_err_and}
use Rattle.byte_io.proofs.InputLaws.{not_read}
use Rattle.byte_io.proofs.input.skip_all.Goals as goal

pub returns-in_err-count-clause-first : goal.returns-in_err-count-clause-first
returns-in_err-count-clause-first g c =
    let p = err_from_is_err_and c.from_residual.result c.from_residual.ensures.1 in
    let so_far = c.loop-turn.invariant in
    rw (p.1, p.2) (not_read _ (g.R.Source.left c.loop-turn.input) _ _ so_far.bytes c.loop-turn.room c.args.limit _ so_far.consumed (sym so_far.room) c.in_err-count.ensures.first)

pub loop-turn-preserved : goal.loop-turn-preserved
loop-turn-preserved g c =
    let so_far = c.loop-turn.invariant in
    let piece = take c.in_ok-count.count c.fetch_piece.new.piece in
    let came = c.in_ok-count.ensures.value in
    let some : 0 < c.in_ok-count.count = grind arith in
    record {
      bytes = so_far.bytes ++ piece;
      consumed = Consumes-trans _ (g.R.Source.left c.loop-turn.input) _ so_far.bytes piece so_far.consumed came.2;
      room = omega (arith, so_far.room, came.0, came.1, length-append so_far.bytes piece, length-take c.in_ok-count.count c.fetch_piece.new.piece);
      turns = omega (arith, so_far.turns, came.0, some, length-append so_far.bytes piece, length-take c.in_ok-count.count c.fetch_piece.new.piece);
    }
