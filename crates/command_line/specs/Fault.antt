-- The exit statuses for arguments that are no command.
use Rattle.std.specs.Prelude.{ℕ, ◌≡◌, ◌≢◌, ◌⊎◌}
use Rattle.clap.specs.Values.{kind_of}
use Rattle.clap.specs.declared.error.Error.{Error}
use Rattle.clap.specs.declared.error.kind.ErrorKind.TheVariants.{DisplayHelp, DisplayVersion, OutOfMemory}
use Rattle.command_line.specs.declared.fault.LineFault.{LineFault}
use Rattle.command_line.specs.declared.fault.LineFault.TheVariants.{Refused, Word, Memory}

-- the error is a mistake in the arguments: it shows neither help nor the version
abbrev pub IsMistake : Error → Type 0
IsMistake error = (kind_of error ≢ DisplayHelp) × (kind_of error ≢ DisplayVersion)

-- the exit status for arguments that are refused: 2 for a mistake, 0 for a request for help,
-- 2 for an argument without a value, 1 for out of memory
abbrev pub IsStatus : LineFault → ℕ → Type 0
IsStatus (Refused error) status =
    (IsMistake error × (status ≡ 2)) ⊎ ((IsMistake error → ⊥) × (status ≡ 0))
IsStatus (Word wrong) status = status ≡ 2
IsStatus Memory status = status ≡ 1

-- the fault of arguments that clap refuses: out of memory just where clap was out of memory
abbrev pub IsOfClap : Error → LineFault → Type 0
IsOfClap error fault =
    ((kind_of error ≡ OutOfMemory) × (fault ≡ Memory))
    ⊎ ((kind_of error ≢ OutOfMemory) × (fault ≡ Refused error))
