use Rattle.std.proofs.Common.{◌∙◌, inl, inr, refl, sym}
use Rattle.msf_blocks.proofs.FoundLaws.{layout_holds}
use Rattle.msf_blocks.proofs.KnownLayoutLaws.{layout_known}
use Rattle.file_types.proofs.bounded.read_stream_within.Goals as goal

pub lent_stream_of-requires : goal.lent_stream_of-requires
lent_stream_of-requires g c κs = (
  (refl, (refl, tt)),
  λ file known.
      let read = c.in_ok-layout.ensures in
      layout_known file c.in_ok-layout.layout (rw (sym read.reads.keeps ∙ known) at read.texts),
)

pub returns-in-Err-Of-clause-refused : goal.returns-in-Err-Of-clause-refused
returns-in-Err-Of-clause-refused g c =
    let read = c.in_ok-layout.ensures in
    elim (rw (c.in-Err-Of.field-0-is, read.reads.keeps) at c.in-Err-Of.ensures.refused) [
      | inl refused ↦ inl (inr (c.in_ok-layout.layout, read.texts, refused))
      | inr want ↦ inr want
    ]

pub returns-in-Err-Of-clause-memory : goal.returns-in-Err-Of-clause-memory
returns-in-Err-Of-clause-memory g c = λ is file known.
    let read = c.in_ok-layout.ensures in
    layout_holds file c.in_ok-layout.layout (read.small file known) (layout_known file c.in_ok-layout.layout (rw known at read.texts))
