use Rattle.std.proofs.Common.{◌≡◌, ◌∙◌, true, false, cond, take, map, sym, ap, refl, is_some, option_map, get_or}
use Rattle.std.specs.Prelude.{Some, None}
use Rattle.indexmap.specs.IndexMap.{get_by}
use Rattle.type_changes.specs.Lone.{is_same_key}
use Rattle.type_changes.specs.Seen.{seen, seen_key, one_or_several}
use Rattle.type_changes.proofs.NextLaws.{nobody, next_taken, mapped_some, mapped_choice}
use Rattle.type_changes.proofs.SoleLaws.{with_key, sole_more}
use Rattle.type_changes.proofs.sole.soles.Goals as goal
use Rattle.type_changes.proofs.sole.soles.Goals.{then-contains_key, else-contains_key}

pub loop-told-preserved : goal.loop-told-preserved
loop-told-preserved g c = λ key.
    let k = c.loop-told.told-index in
    let all = c.args.all.now in
    let one = get_or all k nobody in
    let done = take k (map seen all) in
    let there = c.contains_key.result in
    let is : there ≡ is_some (one_or_several (with_key (seen_key one.key) done)) =
    c.contains_key.ensures ∙ sym (mapped_some (option_map seen) _) ∙ ap is_some (c.loop-told.invariant one.key) in
    let sole : option_map seen c.if-contains_key.sole ≡ cond there None (Some (seen one)) = elim c.if-contains_key.branch [
      | then-contains_key w ↦ rw (w.sole-is, w.if-contains_key.true) refl
      | else-contains_key w ↦ rw (w.sole-is, w.if-contains_key.false) refl
    ] in
    let before = option_map (option_map seen) (get_by (λ x. is_same_key (seen_key key) (seen_key x)) c.loop-told.soles) in
    let after = option_map (option_map seen) (get_by (λ x. is_same_key (seen_key key) (seen_key x)) c.insert.new.self) in
    let put : after ≡ cond (is_same_key (seen_key one.key) (seen_key key)) (Some (cond there None (Some (seen one)))) before =
    ap (option_map (option_map seen)) (c.in_ok-insert.ensures.updates.0 key)
    ∙ mapped_choice (option_map seen) (is_same_key (seen_key one.key) (seen_key key)) c.if-contains_key.sole (get_by (λ x. is_same_key (seen_key key) (seen_key x)) c.loop-told.soles)
    ∙ ap (λ s. cond (is_same_key (seen_key one.key) (seen_key key)) (Some s) before) sole in
    rw (next_taken seen nobody all k c.loop-told-test.true)
    (sole_more done (seen one) (seen_key key) there before after is (c.loop-told.invariant key) put)
