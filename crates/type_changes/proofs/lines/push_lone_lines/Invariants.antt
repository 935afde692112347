use Rattle.std.proofs.Common.{◌≡◌, ◌++◌}
use Rattle.bstr.specs.Text.{lines_of}
use Rattle.type_changes.specs.Changes.{lone_lines, signed}
use Rattle.type_changes.proofs.lines.push_lone_lines.Given as goal

abbrev pub invariant-loop-line : goal.invariant-loop-line
invariant-loop-line g l =
    l.text.items ++ signed l.sign (lone_lines l.line-iterator (lines_of l.fn.others)) ≡ l.fn.text.items ++ signed l.sign (lone_lines (lines_of l.fn.lines) (lines_of l.fn.others))
