use Rattle.std.proofs.Common.{rules, ◌≡◌, ◌++◌, ◌∙◌, sym, ap, map, get_or, option_map}
use Rattle.std.specs.Prelude.{Some, None}
use Rattle.type_changes.specs.Changes.{gone_text, successor}
use Rattle.type_changes.specs.Seen.{seen, seen_key}
use Rattle.type_changes.proofs.LoneLaws.{gone_shown, shown_next}
use Rattle.type_changes.proofs.NextLaws.{nobody, next_left}
use Rattle.type_changes.proofs.changes.push_gone.Goals as goal
use Rattle.type_changes.proofs.changes.push_gone.Goals.{in-Some+in_ok-push_changed-in-Some, in-None+in_ok-push_whole-in-None}

pub loop-told-preserved : goal.loop-told-preserved
loop-told-preserved g c = λ theirs are come_are.
    let all = c.args.gone.now in
    let k = c.loop-told.told-index in
    let one = get_or all k nobody in
    let text = c.loop-told.text.items in
    let next : option_map seen c.successor.result ≡ successor (map seen all) theirs (seen_key one.key) = c.successor.ensures (map seen all) theirs are come_are in
    let pushed : c.match-successor.text.items ≡ text ++ gone_text (map seen all) theirs (seen one) = elim c.match-successor.branch [
      | in-Some+in_ok-push_changed-in-Some w ↦
          let some : c.successor.result ≡ Some w.in-Some.new = search rules in
          rw (w.text-is, gone_shown (map seen all) theirs (seen one) (Some (seen w.in-Some.new)) (sym (ap (option_map seen) some) ∙ next)) w.in_ok-push_changed-in-Some.ensures
      | in-None+in_ok-push_whole-in-None w ↦
          let none : c.successor.result ≡ None = search rules in
          rw (w.text-is, gone_shown (map seen all) theirs (seen one) None (sym (ap (option_map seen) none) ∙ next)) w.in_ok-push_whole-in-None.ensures
    ] in
    shown_next (gone_text (map seen all) theirs) text _ _ (seen one) _ pushed (rw (next_left seen nobody all k c.loop-told-test.true) at (c.loop-told.invariant theirs are come_are))
