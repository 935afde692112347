use Rattle.std.proofs.Common.{◌≡◌, ◌+◌, length, take, arith}
use Rattle.byte_io.proofs.InputLaws.{filled_room, made_longer}
use Rattle.byte_io.proofs.at.read_more.Goals as goal

pub returns-in-Some-clause-given : goal.returns-in-Some-clause-given
returns-in-Some-clause-given g c =
    let old = c.args.buffer.now.items in
    let piece = c.read_at.new.into in
    let behind : c.len-length.result ≡ length old = omega (arith, c.len-length.ensures) in
    let front : take c.len-length.result c.deref_mut.result.now ≡ old =
    rw (c.deref_mut.ensures.value, c.in_ok-resize.ensures.items) (made_longer old _ c.len-length.result (c.len-length.result + c.args.count) behind (omega arith)) in
    let whole : c.resize.new.self.len ≡ c.len-length.result + length piece = grind arith in
    (piece, filled_room old c.deref_mut.result.now piece _ _ c.len-length.result c.resize.new.self.len behind front whole, c.in-Some.ensures.given)
