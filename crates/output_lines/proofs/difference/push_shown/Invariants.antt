use Rattle.std.proofs.Common.{◌≡◌, ◌≤◌, List, ℕ, drop, length, string_bytes}
use Rattle.type_difference.specs.Difference.{HaveStandings}
use Rattle.output_lines.specs.Difference.{IsShown}
use Rattle.output_lines.proofs.DifferenceLaws.{BeginsLines}
use Rattle.output_lines.proofs.difference.push_shown.Given as goal

abbrev pub invariant-loop-bytes : goal.invariant-loop-bytes
invariant-loop-bytes g l = record {
  left : l.bytes-iterator ≡ drop l.position l.types;
  inside : l.position ≤ length l.types;
  shown : (others : List (List ℕ)) → HaveStandings l.types others l.standings → BeginsLines (IsShown l.scope l.types others) l.sign l.types (string_bytes l.fn.text) (string_bytes l.text) l.position l.bytes-iterator;
}
