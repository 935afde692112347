use Rattle.msf_blocks.proofs.KnownLayoutLaws.{fault_given, fault_known}
use Rattle.msf_blocks.proofs.laws.known_fault.Goals as goal

pub returns : goal.returns
returns c = λ file fault. (fault_known file fault, fault_given file fault)
