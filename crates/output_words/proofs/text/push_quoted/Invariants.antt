use Rattle.std.proofs.Common.{◌≡◌, ◌∷◌, ◌++◌, length, string_bytes}
use Rattle.std.specs.List.{flat_map}
use Rattle.output_words.specs.Text.{quoted_byte}
use Rattle.output_words.proofs.text.push_quoted.Given as goal

abbrev pub invariant-runs : goal.invariant-runs
invariant-runs g l =
    string_bytes l.text ++ flat_map quoted_byte l.rest
    ≡ string_bytes l.fn.text ++ (34 ∷ flat_map quoted_byte l.bytes)

abbrev pub decreases-runs : goal.decreases-runs
decreases-runs g l = length l.rest
