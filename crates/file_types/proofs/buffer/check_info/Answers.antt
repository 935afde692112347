use Rattle.std.proofs.Common.{◌∙◌, sym, refl, arith}
use Rattle.std.proofs.lemmas.Result.{err_from_is_err_and}
use Rattle.file_types.proofs.StreamLaws.{listed_info, not_listed}
use Rattle.file_types.proofs.buffer.check_info.Goals as goal

pub unreachable-requires : goal.unreachable-requires
unreachable-requires g c =
    let few = not_listed c.size.result c.args.layout.now.streams 1 (rw c.in_ok-stream.ensures.value at c.size.ensures.value) c.in_default.is in
    absurd (omega (arith, few, c.in_ok-stream.ensures.there))

pub returns-in_err-stream-clause-refused : goal.returns-in_err-stream-clause-refused
returns-in_err-stream-clause-refused g c =
    let p = err_from_is_err_and c.from_residual.result c.from_residual.ensures.1 in
    let none = c.in_err-stream.ensures.first in
    rw (p.1, p.2, none.0) (none.1, refl)

pub returns-clause-info : goal.returns-clause-info
returns-clause-info g c =
    let is = rw c.in_ok-stream.ensures.value at (sym c.size.ensures.value ∙ c.in-Some.is) in
    listed_info c.args.layout.now c.in-Some.size is (omega (arith, c.if-size-lt-HEADER.false))
