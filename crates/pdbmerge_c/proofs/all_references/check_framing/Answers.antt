use Rattle.pdbmerge_c.proofs.ReferenceLaws.{memory_framed}
use Rattle.pdbmerge_c.proofs.all_references.check_framing.Goals as goal

pub returns-in-Memory-clause-value : goal.returns-in-Memory-clause-value
returns-in-Memory-clause-value c = memory_framed c.args.stream.now c.in-Err.fault c.in-Memory.is c.in-Err.ensures.first
