use Rattle.msf_blocks.proofs.KnownLayoutLaws.{layout_known}
use Rattle.file_types.proofs.KnownLaws.{lists_known, refused_known}
use Rattle.pdb_merge.proofs.OwnLaws.{pdb_own, reads_more}
use Rattle.pdb_merge.proofs.input.read_with.Goals as goal

pub returns-in-Ok-clause-value : goal.returns-in-Ok-clause-value
returns-in-Ok-clause-value g c = λ file known.
    let read = c.in-Ok.ensures.texts in
    lists_known file read.0 c.in-Ok.stream.now (c.in-Ok.ensures.small file known) (layout_known file read.0 (rw known at read.1)) (rw known at read.3)

pub returns-in-Err-Of-Of-clause-own : goal.returns-in-Err-Of-Of-clause-own
returns-in-Err-Of-Of-clause-own g c = λ files given known.
    let e = c.in-Err-Of-Of in
    let refused = rw (e.field-0-is, e.field-0-0-is) at e.ensures.refused in
    rw c.from.ensures (pdb_own _ e.fault (refused_known (g.R.ReadAt.bytes c.args.reader.now) e.fault refused _ known))

pub returns-in-Err-Of-Of-clause-first : goal.returns-in-Err-Of-Of-clause-first
returns-in-Err-Of-Of-clause-first g c = reads_more (g.I.Inputs.known c.args.inputs.now) c.args.input (g.R.ReadAt.bytes c.args.reader.now) c.requires
