use Rattle.std.proofs.Common.{refl}
use Rattle.msf_blocks.proofs.layout.Layout.read.Goals as goal

pub returns-in-Err-Of-clause-found : goal.returns-in-Err-Of-clause-found
returns-in-Err-Of-clause-found g c = λ layout has.
    let found = rw c.in-Err-Of.field-0-is at c.in-Err-Of.ensures.found in
    found c.args.file.now refl layout has
