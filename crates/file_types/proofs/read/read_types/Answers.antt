use Rattle.std.proofs.Common.{refl}
use Rattle.file_types.proofs.read.read_types.Goals as goal

pub returns-in-Ok-clause-value : goal.returns-in-Ok-clause-value
returns-in-Ok-clause-value g c = c.in-Ok.ensures.value c.args.file.now refl

pub returns-in-Err-Of-clause-found : goal.returns-in-Err-Of-clause-found
returns-in-Err-Of-clause-found g c = λ records is.
    let found = rw c.in-Err-Of.field-0-is at c.in-Err-Of.ensures.found in
    found c.args.file.now refl records is
