use Rattle.file_types.proofs.KnownLaws.{texts_fault_known}
use Rattle.file_types.proofs.laws.known_fault.Goals as goal

pub returns : goal.returns
returns g c = λ file fault refused. texts_fault_known file fault refused
