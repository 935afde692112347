use Rattle.std.proofs.lemmas.Result.{err_from_is_err_and}
use Rattle.pdbmerge_c.specs.Identify.{IsFaultOfIdentity}
use Rattle.pdbmerge_c.proofs.FaultLaws.{layout_fault}
use Rattle.pdbmerge_c.proofs.identify.read_identity.Goals as goal

pub returns-in_err-layout-clause-first : goal.returns-in_err-layout-clause-first
returns-in_err-layout-clause-first c =
    let p = err_from_is_err_and c.from_residual.result c.from_residual.ensures.1 in
    rw p.1 (layout_fault (IsFaultOfIdentity c.args.file.now) c.args.file.now (λ inner first. first) (λ none. none) c.in_err-layout.field-0.0 p.0 p.2 c.in_err-layout.ensures.first)
