-- The fault of a file that was opened.
use Rattle.std.proofs.Common.{◌≡◌, ◌⊎◌, ◌≤◌, ℕ, inr}
use Rattle.std.specs.Prelude.{Result, Ok, Err, IfErr}
use Rattle.byte_io.specs.At.{Bytes, IfKnown, IfOf}
use Rattle.byte_io.specs.declared.at.AtFault.{AtFault}
use Rattle.byte_io.specs.declared.at.AtFault.TheVariants as at
use Rattle.show_commands.specs.Show.{RefusesBounded}
use Rattle.show_commands.specs.Shown.{RefusesOpened, RefusesWithin}
use Rattle.show_commands.specs.declared.fault.RunFault.{RunFault}
use Rattle.show_commands.specs.declared.fault.RunFault.TheVariants.{Memory}
use Rattle.run_options.specs.declared.shown.Shown.{Shown}

-- that of a file that is within the limit
pub opened_fault : {T A : Type 0} (command : Shown) (limit : ℕ) (bytes : Bytes) (answer : Result T (AtFault (RunFault A))) → bytes.told ≤ limit
    → IfErr answer (IfOf (λ fault. IfKnown bytes (λ file. RefusesBounded limit (RefusesWithin command limit) file fault ⊎ (fault ≡ Memory)))) → IfErr answer (IfOf (λ fault. IfKnown bytes (λ file. RefusesOpened command limit file fault)))
unfolding RefusesOpened
opened_fault command limit bytes (Ok text) short first = tt
opened_fault command limit bytes (Err at.Read) short first = tt
opened_fault command limit bytes (Err (at.Of fault)) short first = λ file known. inr (rw known at short, first file known)
