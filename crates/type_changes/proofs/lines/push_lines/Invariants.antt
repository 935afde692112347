use Rattle.std.proofs.Common.{◌≡◌, ◌++◌}
use Rattle.bstr.specs.Text.{lines_of}
use Rattle.type_changes.specs.Changes.{signed}
use Rattle.type_changes.proofs.lines.push_lines.Given as goal

abbrev pub invariant-loop-line : goal.invariant-loop-line
invariant-loop-line g l = l.text.items ++ signed l.sign l.line-iterator ≡ l.fn.text.items ++ signed l.sign (lines_of l.fn.lines)
