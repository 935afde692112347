use Rattle.std.proofs.Common.{◌≡◌, ◌++◌, take, string_bytes}
use Rattle.std.specs.List.{flat_map}
use Rattle.output_lines.specs.Info.{feature_line}
use Rattle.output_lines.proofs.info.push_features.Given as goal

abbrev pub invariant-loop-feature : goal.invariant-loop-feature
invariant-loop-feature g l = string_bytes l.text ≡ string_bytes l.fn.text ++ flat_map feature_line (take l.feature-index l.features)
