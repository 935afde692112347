use Rattle.std.proofs.lemmas.Result.{err_from_is_err_and}
use Rattle.byte_io.proofs.AtLaws.{of_more}
use Rattle.file_types.proofs.KnownLaws.{types_known, types_refused_known}
use Rattle.file_types.proofs.RefusedLaws.{types_read, types_refused}
use Rattle.file_types.proofs.read.read_types_of.Goals as goal

pub returns-in_err-stream-clause-first : goal.returns-in_err-stream-clause-first
returns-in_err-stream-clause-first g c =
    let p = err_from_is_err_and c.from_residual.result c.from_residual.ensures.1 in
    rw (p.1, p.2) (of_more _ _ c.in_err-stream.field-0.0 (λ inner refused. types_refused_known (g.R.ReadAt.bytes c.args.input.now) c.args.layout.now inner c.requires.layout refused) c.in_err-stream.ensures.refused)

pub returns-in-Ok-clause-texts : goal.returns-in-Ok-clause-texts
returns-in-Ok-clause-texts g c = types_read (g.R.ReadAt.bytes c.args.input.now) c.args.layout.now c.in_ok-stream.stream.now c.in-Ok.types c.in_ok-stream.ensures.texts c.in-Ok.ensures.types

pub returns-in-Ok-clause-value : goal.returns-in-Ok-clause-value
returns-in-Ok-clause-value g c = λ file known.
    types_known file c.args.layout.now c.in-Ok.types (c.requires.bytes file known) (c.requires.layout file known) (rw known at (returns-in-Ok-clause-texts g c))

pub returns-in-Err-clause-refused : goal.returns-in-Err-clause-refused
returns-in-Err-clause-refused g c =
    types_refused (g.R.ReadAt.bytes c.args.input.now) c.args.layout.now c.in_ok-stream.stream.now c.in-Err.fault c.in_ok-stream.ensures.texts c.in-Err.ensures.refused

pub returns-in-Err-clause-first : goal.returns-in-Err-clause-first
returns-in-Err-clause-first g c =
    types_refused_known (g.R.ReadAt.bytes c.args.input.now) c.args.layout.now c.in-Err.fault c.requires.layout (returns-in-Err-clause-refused g c)
