use Rattle.std.proofs.Common.{◌≡◌, ◌||◌, ℕ, List, map}
use Rattle.std.specs.List.{list_any}
use Rattle.std.specs.Str.{bytes_eq}
use Rattle.bstr.specs.Text.{lines_of}
use Rattle.type_changes.proofs.lines.lines_in.Given as goal

abbrev pub invariant-loop-line : goal.invariant-loop-line
invariant-loop-line g l =
    (line : List ℕ) → (list_any (bytes_eq line) (map (λ x. x.bytes.now) l.lines.keys) || list_any (bytes_eq line) l.line-iterator) ≡ list_any (bytes_eq line) (lines_of l.fn.text)
