use Rattle.std.proofs.Common.{◌≡◌, ◌∷◌, ◌∙◌, ◌++◌, cond, [], get_or, arith, rules, sym, refl}
use Rattle.std.proofs.lemmas.List.{append-nil}
use Rattle.type_trees.specs.Tree.{nothing}
use Rattle.type_trees.proofs.DepthLaws.{all_records}
use Rattle.type_trees.proofs.TreeLaws.{tree_there}
use Rattle.type_expressions.specs.Asked.{is_shown}
use Rattle.type_expressions.specs.Definition.{definition_text}
use Rattle.type_expressions.proofs.AskedLaws.{next_checked, shown_goes, shown_ends}
use Rattle.type_expressions.proofs.SpanLaws.{none_told}
use Rattle.type_expressions.proofs.definitions.push_definitions.Goals as goal
use Rattle.type_expressions.proofs.definitions.push_definitions.Goals.{then-is_shown+in_ok-push_definition, else-is_shown}

pub loop-position-init : goal.loop-position-init
loop-position-init g c =
    let told = c.in_ok-lists.ensures in
    record {
      lists = (rw told.0 (none_told c.args.types.now c.args.text.now.items c.len.result c.len.ensures.value), told.1);
      left = search rules;
      texts = λ trees are. refl;
    }

pub unreachable-requires : goal.unreachable-requires
unreachable-requires g c =
    let none : c.loop-position.records ≡ [] = search rules in
    let end = all_records c.args.types.now c.loop-position.position c.loop-position.records c.loop-position.invariant.left none (omega (arith, c.loop-position.auto.position-end, c.len-position-end.ensures.value)) in
    omega (arith, end, c.loop-position-test.true, c.len-position-end.ensures.value)

pub push_definition-requires-clause-there : goal.push_definition-requires-clause-there
push_definition-requires-clause-there g c =
    let types = c.len-position-end.ensures.types in
    tree_there c.args.types.now types.ranked.0 c.loop-position.position types.ranked.1 (omega (arith, c.loop-position-test.true, c.len-position-end.ensures.value))

pub loop-position-preserved : goal.loop-position-preserved
loop-position-preserved g c =
    let so_far = c.loop-position.invariant in
    let k = c.loop-position.position in
    let r = c.in-Some.record.now in
    let asked = c.args.asked.now in
    let split : c.loop-position.records ≡ r ∷ c.next.new.self = search rules in
    let next = next_checked c.args.types.now k c.loop-position.records c.next.new.self r c.len-position-end.ensures.types so_far.left split in
    record {
      lists = elim c.if-is_shown.branch [
        | then-is_shown+in_ok-push_definition w ↦ rw (w.text-is, w.lists-is) w.in_ok-push_definition.ensures.lists
        | else-is_shown w ↦ rw (w.text-is, w.lists-is) so_far.lists
      ];
      left = next.3;
      texts = λ trees are.
          let pushed : c.if-is_shown.text.items ≡ c.loop-position.text.items ++ cond (is_shown asked k r) (definition_text (get_or trees k nothing)) [] = elim c.if-is_shown.branch [
            | then-is_shown+in_ok-push_definition w ↦ rw (w.text-is, sym c.is_shown.ensures ∙ w.if-is_shown.true) (w.in_ok-push_definition.ensures.value (get_or trees k nothing) (are.each k next.0))
            | else-is_shown w ↦ rw (w.text-is, sym c.is_shown.ensures ∙ w.if-is_shown.false) (sym (append-nil c.loop-position.text.items))
          ] in
          shown_goes asked c.args.types.now trees k r c.args.text.now.items c.loop-position.text.items _ are next.0 next.1 next.2 pushed (so_far.texts trees are);
    }

pub returns : goal.returns
returns g c = λ trees are.
    shown_ends c.args.asked.now c.args.types.now trees c.loop-position.position c.args.text.now.items c.loop-position.text.items are (omega (arith, c.loop-position-test.false, c.loop-position.auto.position-end, c.len-position-end.ensures.value)) (c.loop-position.invariant.texts trees are)
