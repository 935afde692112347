use Rattle.std.proofs.Common.{◌≡◌, ◌++◌, List, map, drop}
use Rattle.std.specs.List.{flat_map}
use Rattle.type_changes.specs.Changes.{gone_text}
use Rattle.type_changes.specs.Definition.{Definition}
use Rattle.type_changes.specs.Seen.{AreSoles, seen}
use Rattle.type_changes.proofs.changes.push_gone.Given as goal

abbrev pub invariant-loop-told : goal.invariant-loop-told
invariant-loop-told g l =
    (theirs : List Definition) → AreSoles l.gone_soles (map seen l.gone) → AreSoles l.come_soles theirs
    → l.text.items ++ flat_map (gone_text (map seen l.gone) theirs) (drop l.told-index (map seen l.gone)) ≡ l.fn.text.items ++ flat_map (gone_text (map seen l.gone) theirs) (map seen l.gone)
