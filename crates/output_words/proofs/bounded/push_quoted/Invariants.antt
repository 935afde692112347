use Rattle.std.proofs.Common.{◌≡◌, ◌≤◌, ◌++◌, ◌∷◌, take, length}
use Rattle.std.specs.List.{flat_map}
use Rattle.output_words.specs.Text.{quoted_byte}
use Rattle.output_words.proofs.bounded.push_quoted.Given as goal

abbrev pub invariant-runs : goal.invariant-runs
invariant-runs g l = record {
  left :
      take l.end (l.text.items ++ flat_map quoted_byte l.rest)
      ≡ take l.end (l.fn.text.items ++ (34 ∷ flat_map quoted_byte l.name));
  short : length l.text.items ≤ l.end;
}

abbrev pub decreases-runs : goal.decreases-runs
decreases-runs g l = length l.rest
