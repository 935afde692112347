use Rattle.std.proofs.Common.{arith}
use Rattle.std.proofs.lemmas.Result.{err_from_is_err_and}
use Rattle.pdbmerge_c.specs.Stream.{IsFaultOfStream}
use Rattle.pdbmerge_c.proofs.FaultLaws.{layout_fault, stream_fault}
use Rattle.pdbmerge_c.proofs.stream.read_stream.Goals as goal

pub returns-in_err-layout-clause-first : goal.returns-in_err-layout-clause-first
returns-in_err-layout-clause-first c =
    let p = err_from_is_err_and c.from_residual.result c.from_residual.ensures.1 in
    rw p.1 (layout_fault (IsFaultOfStream c.args.file.now c.args.stream) c.args.file.now (λ inner first. first) (λ none. none) c.in_err-layout.field-0.0 p.0 p.2 c.in_err-layout.ensures.first)

pub returns-in-Err-Of-clause-first : goal.returns-in-Err-Of-clause-first
returns-in-Err-Of-clause-first c =
    let first = rw c.in-Err-Of.field-0-is at c.in-Err-Of.ensures.first in
    stream_fault c.args.file.now c.in_ok-layout.layout c.args.stream c.in-Err-Of.fault c.from.result (λ i. omega (arith, c.type_inv.file i)) c.in_ok-layout.ensures.value c.from.ensures first
