use Rattle.std.proofs.Common.{◌≡◌, ◌++◌, List, map, drop}
use Rattle.std.specs.List.{flat_map}
use Rattle.type_changes.specs.Changes.{come_text}
use Rattle.type_changes.specs.Definition.{Definition}
use Rattle.type_changes.specs.Seen.{AreSoles, seen}
use Rattle.type_changes.proofs.changes.push_come.Given as goal

abbrev pub invariant-loop-told : goal.invariant-loop-told
invariant-loop-told g l =
    (ours : List Definition) → AreSoles l.gone_soles ours → AreSoles l.come_soles (map seen l.come)
    → l.text.items ++ flat_map (come_text ours (map seen l.come)) (drop l.told-index (map seen l.come)) ≡ l.fn.text.items ++ flat_map (come_text ours (map seen l.come)) (map seen l.come)
