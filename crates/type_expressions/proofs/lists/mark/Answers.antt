use Rattle.std.proofs.Common.{slice_index_or, arith}
use Rattle.type_expressions.proofs.SpanLaws.{any_default}
use Rattle.type_expressions.proofs.lists.mark.Goals as goal

pub bounds-spans-begun : goal.bounds-spans-begun
bounds-spans-begun c =
    let k = c.loop-begun.begun-index in
    let b = slice_index_or c.args.walk.now k (record { position = 0; start = 0 }) in
    let inside = c.requires b (k, c.loop-begun-test.true, any_default c.args.walk.now k b (record { position = 0; start = 0 }) c.loop-begun-test.true) in
    omega (arith, inside, c.loop-begun.invariant.many)
