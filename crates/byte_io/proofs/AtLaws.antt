-- Faults of calls that read by position.
use Rattle.byte_io.specs.At.{IfOf}
use Rattle.byte_io.specs.declared.at.AtFault.{AtFault}
use Rattle.byte_io.specs.declared.at.AtFault.TheVariants as at

-- what follows of each fault of what was read
pub of_more : {F : Type 0} (P Q : F → Type 0) (fault : AtFault F) → ((inner : F) → P inner → Q inner) → IfOf P fault → IfOf Q fault
of_more P Q at.Read each is = tt
of_more P Q (at.Of inner) each is = each inner is
