use Rattle.std.proofs.Common.{◌≡◌, ◌++◌, map, take, string_bytes}
use Rattle.std.specs.List.{flat_map}
use Rattle.pdb_info.specs.Name.{named}
use Rattle.output_lines.specs.Info.{name_line}
use Rattle.output_lines.proofs.info.push_names.Given as goal

abbrev pub invariant-loop-name : goal.invariant-loop-name
invariant-loop-name g l = string_bytes l.text ≡ string_bytes l.fn.text ++ flat_map name_line (map named (take l.name-index l.names))
