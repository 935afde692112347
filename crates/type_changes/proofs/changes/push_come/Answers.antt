use Rattle.std.proofs.Common.{◌≡◌, ◌++◌, ◌∙◌, true, false, not, sym, ap, map, get_or, is_some}
use Rattle.std.proofs.lemmas.List.{append-nil}
use Rattle.type_changes.specs.Changes.{come_text, successor}
use Rattle.type_changes.specs.Seen.{seen, seen_key}
use Rattle.type_changes.proofs.LoneLaws.{come_shown, shown_next}
use Rattle.type_changes.proofs.NextLaws.{nobody, next_left, mapped_some}
use Rattle.type_changes.proofs.changes.push_come.Goals as goal
use Rattle.type_changes.proofs.changes.push_come.Goals.{then-is_none+in_ok-push_whole, else-is_none}

pub loop-told-preserved : goal.loop-told-preserved
loop-told-preserved g c = λ ours are come_are.
    let all = c.args.come.now in
    let k = c.loop-told.told-index in
    let one = get_or all k nobody in
    let text = c.loop-told.text.items in
    let some : is_some (successor ours (map seen all) (seen_key one.key)) ≡ not c.is_none.result =
    sym (ap is_some (c.successor.ensures ours (map seen all) are come_are)) ∙ mapped_some seen c.successor.result ∙ c.is_none.ensures in
    let pushed : c.if-is_none.text.items ≡ text ++ come_text ours (map seen all) (seen one) = elim c.if-is_none.branch [
      | then-is_none+in_ok-push_whole w ↦ rw (w.text-is, come_shown ours (map seen all) (seen one) false (some ∙ ap not w.if-is_none.true)) w.in_ok-push_whole.ensures
      | else-is_none w ↦ rw (w.text-is, come_shown ours (map seen all) (seen one) true (some ∙ ap not w.if-is_none.false)) (sym (append-nil text))
    ] in
    shown_next (come_text ours (map seen all)) text _ _ (seen one) _ pushed (rw (next_left seen nobody all k c.loop-told-test.true) at (c.loop-told.invariant ours are come_are))
