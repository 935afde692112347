use Rattle.std.proofs.Common.{◌≡◌, ◌∷◌, ◌∙◌, true, false, not, sym, ap, subst, List, [], ◌+◌, map, get_or, drop}
use Rattle.type_changes.specs.Definition.{Definition}
use Rattle.type_changes.specs.Lone.{is_same, has}
use Rattle.type_changes.specs.Seen.{seen}
use Rattle.type_changes.specs.declared.told.Told.{Told}
use Rattle.type_changes.proofs.ListLaws.{any_map, map_append}
use Rattle.type_changes.proofs.LoneLaws.{passes_next, fails_next}
use Rattle.type_changes.proofs.NextLaws.{nobody, next_left}
use Rattle.type_changes.proofs.lone.lone.Goals as goal
use Rattle.type_changes.proofs.lone.lone.Goals.{then-not-contains+in_ok-push, else-not-contains}

pub loop-told-preserved : goal.loop-told-preserved
loop-told-preserved g c =
    let items = c.as_slice-told-items.result.now in
    let ours = c.args.ours.now.keys in
    let theirs = map seen c.args.theirs.now.keys in
    let k = c.loop-told.told-index in
    let one = get_or items k nobody in
    let passes = λ (d : Definition). not (has theirs d) in
    let next : drop k (map seen ours) ≡ seen one ∷ drop (k + 1) (map seen ours) =
    subst (λ (xs : List Told). drop k (map seen xs) ≡ seen one ∷ drop (k + 1) (map seen xs)) c.as_slice-told-items.ensures.keys (next_left seen nobody items k c.loop-told-test.true) in
    let is : has theirs (seen one) ≡ c.contains.result = any_map seen (is_same (seen one)) c.args.theirs.now.keys ∙ sym c.contains.ensures in
    let so_far = rw next at c.loop-told.invariant in
    elim c.if-not-contains.branch [
      | then-not-contains+in_ok-push w ↦
          let found : passes (seen one) ≡ true = ap not (is ∙ w.if-not-contains.true) in
          rw (w.lone-is, w.in_ok-push.ensures.items, map_append seen c.loop-told.lone.items (one ∷ [])) (passes_next passes (map seen c.loop-told.lone.items) (seen one) (drop (k + 1) (map seen ours)) _ found so_far)
      | else-not-contains w ↦
          let missing : passes (seen one) ≡ false = ap not (is ∙ w.if-not-contains.false) in
          rw w.lone-is (fails_next passes (map seen c.loop-told.lone.items) (seen one) (drop (k + 1) (map seen ours)) _ missing so_far)
    ]
