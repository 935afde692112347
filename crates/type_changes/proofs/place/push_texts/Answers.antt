use Rattle.std.proofs.Common.{◌<◌, ◌∙◌, ◌++◌, List, ℕ, length, get_or, arith, ap}
use Rattle.std.proofs.lemmas.List.{append_assoc}
use Rattle.type_trees.specs.Tree.{nothing}
use Rattle.type_trees.proofs.TreeLaws.{tree_there}
use Rattle.type_changes.proofs.PlaceLaws.{told_next, told_ends}
use Rattle.type_changes.proofs.place.push_texts.Goals as goal

pub push_text-requires-clause-there : goal.push_text-requires-clause-there
push_text-requires-clause-there g c =
    let types = c.len-position-end.ensures.types in
    tree_there c.args.types.now types.ranked.0 c.loop-position.position types.ranked.1 (omega (arith, c.loop-position-test.true, c.len-position-end.ensures.value))

pub loop-position-preserved : goal.loop-position-preserved
loop-position-preserved g c =
    let k = c.loop-position.position in
    let before = c.loop-position.invariant.kept in
    let more = c.in_ok-push_text.ensures.kept in
    let old = c.args.text.now.items in
    record {
      lists = c.in_ok-push_text.ensures.lists;
      inside = c.in_ok-push_text.ensures.inside;
      kept = (before.0 ++ more.0, more.1 ∙ ap (λ (xs : List ℕ). xs ++ more.0) before.1 ∙ append_assoc old before.0 more.0);
      told = λ trees are.
          let below : k < length c.args.types.now = omega (arith, c.loop-position-test.true, c.len-position-end.ensures.value) in
          told_next _ c.args.types.now trees k _ _ _ are below (c.in_ok-push_text.ensures.value (get_or trees k nothing) (are.each k below)) (c.loop-position.invariant.told trees are);
    }

pub returns-clause-value : goal.returns-clause-value
returns-clause-value g c = λ trees are.
    told_ends _ c.args.types.now trees c.loop-position.position _ _ are (omega (arith, c.loop-position-test.false, c.loop-position.auto.position-end, c.len-position-end.ensures.value)) (c.loop-position.invariant.told trees are)
