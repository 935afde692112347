-- What may come of a file that is opened to be read.
use Rattle.std.specs.Prelude.{ℕ, ◌≤◌, length}
use Rattle.byte_io.specs.Inputs.{Outcomes}

-- a file has at most this many bytes: as the system tells its length, and as it is read
abbrev pub up_to : ℕ → Outcomes
up_to limit =
    record {
      opens = λ bytes. bytes.told ≤ limit;
      gives = λ file. length file ≤ limit;
      refuses = λ fault. Unit {0};
    }
