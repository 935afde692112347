use Rattle.std.proofs.Common.{◌≡◌, ◌+◌, ◌++◌, ◌∷◌, [], ◌∙◌, ℕ, List, drop, take, map, get_or, length, sym, ap, arith, rules}
use Rattle.std.specs.List.{concat}
use Rattle.std.proofs.lemmas.List.{length_push, take_all, map_more}
use Rattle.cv_leaves.specs.Place.{IsChecked}
use Rattle.checked_types.specs.Graph.{named_by}
use Rattle.type_trees.proofs.TreeLaws.{at_position}
use Rattle.type_trees.proofs.DepthLaws.{next_record, all_records}
use Rattle.type_trees.proofs.WeightLaws.{concat_push}
use Rattle.checked_types.proofs.GraphLaws.{still_short}
use Rattle.checked_types.proofs.graph.graph_of.Goals as goal

pub push-requires-clause-short : goal.push-requires-clause-short
push-requires-clause-short g c =
    let all = c.args.records.now in
    let so_far = c.loop-bytes.invariant in
    let k = length c.loop-bytes.graph in
    let split : c.loop-bytes.bytes-iterator ≡ c.in-Some.bytes.now ∷ c.next.new.self = search rules in
    let next = next_record all k c.loop-bytes.bytes-iterator c.next.new.self c.in-Some.bytes.now so_far.left split in
    let is : c.deref.result.now ≡ named_by (get_or all k []) = c.deref.ensures.value ∙ c.in_ok-list_named.ensures ∙ ap named_by next.0 in
    let short = still_short all (length (concat c.loop-bytes.graph)) c.deref.result.now k next.1 (at_position IsChecked all k c.requires next.1) is so_far.short in
    omega (arith, short, c.len.ensures.short)

pub loop-bytes-preserved : goal.loop-bytes-preserved
loop-bytes-preserved g c =
    let all = c.args.records.now in
    let so_far = c.loop-bytes.invariant in
    let k = length c.loop-bytes.graph in
    let split : c.loop-bytes.bytes-iterator ≡ c.in-Some.bytes.now ∷ c.next.new.self = search rules in
    let next = next_record all k c.loop-bytes.bytes-iterator c.next.new.self c.in-Some.bytes.now so_far.left split in
    let row = c.deref.result.now in
    let is : row ≡ named_by (get_or all k []) = c.deref.ensures.value ∙ c.in_ok-list_named.ensures ∙ ap named_by next.0 in
    let pushed : c.push.new.self ≡ c.loop-bytes.graph ++ row ∷ [] = c.in_ok-push.ensures.ok in
    let many : length c.push.new.self ≡ k + 1 = ap length pushed ∙ length_push c.loop-bytes.graph row in
    let short = still_short all (length (concat c.loop-bytes.graph)) row k next.1 (at_position IsChecked all k c.requires next.1) is so_far.short in
    record {
      left = next.2 ∙ ap (λ n. drop n all) (sym many);
      inside = omega (arith, many, next.1);
      rows = rw many (pushed ∙ ap (λ (rs : List (List ℕ)). rs ++ row ∷ []) so_far.rows ∙ ap (λ (r : List ℕ). map named_by (take k all) ++ r ∷ []) is ∙ sym (map_more named_by all k [] next.1));
      short = rw (many, pushed, concat_push c.loop-bytes.graph row) short;
    }

pub returns-clause-value : goal.returns-clause-value
returns-clause-value g c =
    let all = all_records c.args.records.now (length c.loop-bytes.graph) c.loop-bytes.bytes-iterator c.loop-bytes.invariant.left (c.in-None.ensures.steps).0 c.loop-bytes.invariant.inside in
    c.loop-bytes.invariant.rows ∙ ap (map named_by) (take_all (length c.loop-bytes.graph) c.args.records.now (omega (arith, all)))
