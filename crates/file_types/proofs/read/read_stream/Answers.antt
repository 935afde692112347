use Rattle.std.proofs.Common.{◌∙◌, refl, sym}
use Rattle.msf_blocks.proofs.FoundLaws.{layout_holds}
use Rattle.msf_blocks.proofs.KnownLayoutLaws.{layout_known}
use Rattle.file_types.proofs.ReadLaws.{sound_at}
use Rattle.file_types.proofs.read.read_stream.Goals as goal

pub lent_stream_of-requires : goal.lent_stream_of-requires
lent_stream_of-requires g c κs = (
  (refl, (refl, tt)),
  λ file known.
      let read = c.in_ok-layout.ensures in
      layout_known file c.in_ok-layout.layout (rw (sym read.reads.keeps ∙ known) at read.texts),
)

pub returns-clause-memory : goal.returns-clause-memory
returns-clause-memory g c =
    let read = c.in_ok-layout.ensures in
    sound_at (g.R.ReadAt.bytes c.args.input.now) c.lent_stream_of.result
    (λ file known. layout_holds file c.in_ok-layout.layout (read.small file known) (layout_known file c.in_ok-layout.layout (rw known at read.texts)))
