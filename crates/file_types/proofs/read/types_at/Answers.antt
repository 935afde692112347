use Rattle.std.proofs.Common.{inl, inr}
use Rattle.msf_blocks.proofs.FoundLaws.{layout_holds}
use Rattle.msf_blocks.proofs.KnownLayoutLaws.{layout_known}
use Rattle.file_types.proofs.RefusedLaws.{types_read, types_refused}
use Rattle.file_types.proofs.read.types_at.Goals as goal

pub returns-in-Ok-clause-texts : goal.returns-in-Ok-clause-texts
returns-in-Ok-clause-texts g c =
    let read = c.in_ok-stream.ensures.texts in
    (read.0, read.1, types_read (g.R.ReadAt.bytes c.args.input.now) read.0 c.in_ok-stream.stream.now c.in-Ok.types read.2 c.in-Ok.ensures.types)

pub returns-in-Err-clause-refused : goal.returns-in-Err-clause-refused
returns-in-Err-clause-refused g c =
    let read = c.in_ok-stream.ensures.texts in
    elim (types_refused (g.R.ReadAt.bytes c.args.input.now) read.0 c.in_ok-stream.stream.now c.in-Err.fault read.2 c.in-Err.ensures.refused) [
      | inl refused ↦ inl (inr (read.0, read.1, refused))
      | inr want ↦ inr want
    ]

pub returns-in-Err-clause-memory : goal.returns-in-Err-clause-memory
returns-in-Err-clause-memory g c = λ is file known.
    let read = c.in_ok-stream.ensures in
    layout_holds file read.texts.0 (read.small file known) (layout_known file read.texts.0 (rw known at read.texts.1))
