use Rattle.msf_blocks.proofs.OneLayoutLaws.{one_layout}
use Rattle.msf_blocks.proofs.laws.one_layout.Goals as goal

pub returns : goal.returns
returns c = one_layout
