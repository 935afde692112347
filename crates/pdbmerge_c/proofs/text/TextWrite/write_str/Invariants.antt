use Rattle.pdbmerge_c.specs.Fault.{HasTaken}
use Rattle.pdbmerge_c.proofs.text.TextWrite.write_str.Given as goal

abbrev pub invariant-loop-byte : goal.invariant-loop-byte
invariant-loop-byte l = HasTaken l.initial.self l.self l.yielded
