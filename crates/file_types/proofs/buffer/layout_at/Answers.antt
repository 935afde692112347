use Rattle.file_types.proofs.MemoryLaws.{layout_want}
use Rattle.file_types.proofs.RefusedLaws.{texts_refused}
use Rattle.file_types.proofs.buffer.layout_at.Goals as goal

pub returns-in-Err-Of-clause-refused : goal.returns-in-Err-Of-clause-refused
returns-in-Err-Of-clause-refused g c =
    let refused = rw c.in-Err-Of.field-0-is at c.in-Err-Of.ensures.refused in
    texts_refused (g.R.ReadAt.bytes c.args.input.now) c.in-Err-Of.fault c.from.result c.from.ensures refused

pub returns-in-Err-Of-clause-memory : goal.returns-in-Err-Of-clause-memory
returns-in-Err-Of-clause-memory g c = λ is file known.
    let first = rw c.in-Err-Of.field-0-is at c.in-Err-Of.ensures.first in
    layout_want file c.in-Err-Of.fault c.from.result c.from.ensures (first file known) is
