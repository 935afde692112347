use Rattle.file_types.proofs.MemoryLaws.{layout_want}
use Rattle.file_types.proofs.RefusedLaws.{texts_refused}
use Rattle.file_types.proofs.bounded.layout_within.Goals as goal

pub returns-in-Err-Of-Of-clause-refused : goal.returns-in-Err-Of-Of-clause-refused
returns-in-Err-Of-Of-clause-refused g c =
    let e = c.in-Err-Of-Of in
    let refused = rw (e.is, e.field-0-is, e.field-0-0-is) at c.read_within.ensures.refused in
    texts_refused (g.R.ReadAt.bytes c.args.input.now) e.fault c.from.result c.from.ensures refused

pub returns-in-Err-Of-Of-clause-memory : goal.returns-in-Err-Of-Of-clause-memory
returns-in-Err-Of-Of-clause-memory g c = λ is file known.
    let e = c.in-Err-Of-Of in
    let first = rw (e.is, e.field-0-is, e.field-0-0-is) at c.read_within.ensures.first in
    layout_want file e.fault c.from.result c.from.ensures (first file known).1 cc
