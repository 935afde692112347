use Rattle.std.proofs.Common.{arith, ◌+◌, ◌-◌}
use Rattle.std.proofs.lemmas.Slice.{take-put_mid}
use Rattle.byte_io.proofs.at.read_over.Goals as goal

pub returns-clause-given : goal.returns-clause-given
returns-clause-given g c =
    let piece = c.read_at.new.into in
    let at = c.args.at in
    let count = c.args.count in
    let room = c.requires.room in
    (piece, take-put_mid at (at + count - at) c.args.buffer.now piece (at + count) (omega (arith, room, c.in_ok-read_at.ensures.same)) (omega (arith, room)), c.in_ok-read_at.ensures.given)
