use Rattle.std.proofs.Common.{◌≡◌, ◌++◌, drop, string_bytes}
use Rattle.output_lines.specs.Streams.{stream_lines}
use Rattle.output_lines.proofs.streams.push_streams.Given as goal

abbrev pub invariant-loop-s : goal.invariant-loop-s
invariant-loop-s g l = string_bytes l.text ++ stream_lines l.s (drop l.s l.layout.streams) ≡ string_bytes l.initial.text ++ stream_lines 0 l.layout.streams
