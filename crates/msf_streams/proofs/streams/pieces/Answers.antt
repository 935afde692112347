use Rattle.msf_streams.proofs.PieceLaws.{pieces_count}
use Rattle.msf_streams.proofs.streams.pieces.Goals as goal

pub returns-clause-count : goal.returns-clause-count
returns-clause-count g c =
    let whole = c.new.ensures in
    let made = c.new-2.ensures in
    pieces_count c.args.file.now c.args.layout.now c.args.s c.new-2.result (rw whole.layout at made.fits) (rw (whole.file, whole.layout) at made.value)
