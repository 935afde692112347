use Rattle.msf_blocks.proofs.KnownLayoutLaws.{layout_given, layout_known}
use Rattle.msf_blocks.proofs.laws.known_layout.Goals as goal

pub returns : goal.returns
returns c = λ file layout. (layout_known file layout, layout_given file layout)
