use Rattle.msf_blocks.proofs.AtLayoutLaws.{layout_wants}
use Rattle.msf_blocks.proofs.KnownLayoutLaws.{result_known, result_fault_known}
use Rattle.msf_blocks.proofs.layout.Layout.read_at.Goals as goal

pub returns-clause-value : goal.returns-clause-value
returns-clause-value g c = result_known (g.R.ReadAt.bytes c.args.input.now) c.layout_at.result c.layout_at.ensures.texts

pub returns-clause-first : goal.returns-clause-first
returns-clause-first g c = result_fault_known (g.R.ReadAt.bytes c.args.input.now) c.layout_at.result c.layout_at.ensures.refused

pub returns-clause-found : goal.returns-clause-found
returns-clause-found g c =
    let bytes = g.R.ReadAt.bytes c.args.input.now in
    layout_wants bytes c.layout_at.result c.layout_at.ensures.small (result_fault_known bytes c.layout_at.result c.layout_at.ensures.refused)
