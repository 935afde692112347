use Rattle.std.proofs.Common.{◌≡◌, ◌<◌, ◌≤◌, ◌++◌, ◌∷◌, [], ◌∙◌, sym, length, get_or, arith, length-append}
use Rattle.topological_order.specs.Walk.{IsPassed, mark_at}
use Rattle.topological_order.specs.declared.walk.Mark.TheVariants.{Placed}
use Rattle.topological_order.proofs.WalkLaws.{mark_read, next_marked, top_marked, top_inside, top_passed, top_names, is_met, step_places, step_meets, step_stops, count_meets, count_top}
use Rattle.topological_order.proofs.walk.Walk.step.Given.{Over}
use Rattle.topological_order.proofs.walk.Walk.step.Goals.{After-first_unplaced-at}
use Rattle.topological_order.proofs.walk.Walk.step.Goals as goal

-- the nodes that the top names are passed up to the one that was found
passed_of : (g : Over) (c : After-first_unplaced-at g) → IsPassed c.args.self.now.marks.items (get_or c.args.graph.now c.args.top []) c.first_unplaced-at.result
passed_of g c = rw (c.deref.ensures.value, c.get-named.ensures.value) at c.first_unplaced-at.ensures.passed

pub get-named-requires : goal.get-named-requires
get-named-requires g c = record { inside = top_inside _ _ _ _ _ _ c.requires.walk }

pub index-requires : goal.index-requires
index-requires g c = omega (arith, c.args.self.now.passed.ok.0, c.requires.walk.passed_many, top_inside _ _ _ _ _ _ c.requires.walk)

pub first_unplaced-at-requires-clause-inside : goal.first_unplaced-at-requires-clause-inside
first_unplaced-at-requires-clause-inside g c = λ n there. rw c.deref.ensures.value (omega (arith, c.requires.walk.marks_many, c.requires.nodes c.args.top n (rw c.get-named.ensures.value at there)))

pub first_unplaced-at-requires-clause-passed : goal.first_unplaced-at-requires-clause-passed
first_unplaced-at-requires-clause-passed g c =
    rw (c.deref.ensures.value, c.get-named.ensures.value) (top_passed _ _ _ _ _ _ c.index.result.now c.requires.walk c.index.ensures)

pub index_mut-requires : goal.index_mut-requires
index_mut-requires g c = omega (arith, c.args.self.now.passed.ok.0, c.requires.walk.passed_many, top_inside _ _ _ _ _ _ c.requires.walk)

pub place-requires : goal.place-requires
place-requires g c = top_marked _ _ _ _ _ _ c.requires.walk

pub returns-then-at-named-clause-walk : goal.returns-then-at-named-clause-walk
returns-then-at-named-clause-walk g c =
    let ok = c.in_ok-place.ensures in
    let all : length (get_or c.args.graph.now c.args.top []) ≤ c.first_unplaced-at.result = rw (sym c.get-named.ensures.value) (omega arith) in
    rw (ok.passed, ok.marks, ok.path, ok.order) (step_places _ _ _ _ _ _ c.first_unplaced-at.result c.requires.walk (passed_of g (goal.at.returns-then-at-named-clause-walk g c).After-first_unplaced-at) all)

pub returns-then-at-named-clause-less : goal.returns-then-at-named-clause-less
returns-then-at-named-clause-less g c =
    let ok = c.in_ok-place.ensures in
    rw (ok.marks, ok.path) (omega (arith, count_top _ _ _ _ _ _ c.requires.walk))

pub index-requires-2 : goal.index-requires-2
index-requires-2 g c =
    let lt : c.first_unplaced-at.result < length c.get-named.result.now = omega (arith, c.first_unplaced-at.ensures.passed.0) in
    omega (arith, c.args.self.now.marks.ok.0, next_marked _ _ _ _ _ c.get-named.result.now _ c.first_unplaced-at.result c.requires.nodes c.requires.walk c.get-named.ensures.value lt)

pub meet-requires : goal.meet-requires
meet-requires g c =
    let lt : c.first_unplaced-at.result < length c.get-named.result.now = omega (arith, c.first_unplaced-at.ensures.passed.0) in
    next_marked _ _ _ _ _ c.get-named.result.now _ c.first_unplaced-at.result c.requires.nodes c.requires.walk c.get-named.ensures.value lt

pub returns-in_ok-meet-in-New-clause-walk : goal.returns-in_ok-meet-in-New-clause-walk
returns-in_ok-meet-in-New-clause-walk g c =
    let ok = c.in_ok-meet-in-New.ensures in
    let named = c.get-named.result.now in
    let at = c.first_unplaced-at.result in
    let to = get_or named at 0 in
    let lt : at < length named = omega (arith, c.first_unplaced-at.ensures.passed.0) in
    let names = top_names c.args.graph.now named c.args.top at c.get-named.ensures.value lt in
    let inside = next_marked _ _ _ _ _ named _ at c.requires.nodes c.requires.walk c.get-named.ensures.value lt in
    rw (ok.passed, ok.marks, ok.path, ok.order, c.in_ok-push-in-New.ensures.items)
    (step_meets _ _ _ _ _ c.args.top at to c.requires.nodes c.requires.walk (passed_of g (goal.at.returns-in_ok-meet-in-New-clause-walk g c).After-first_unplaced-at) names (mark_read c.args.self.now.marks.items to c.index-2.result.now inside c.index-2.ensures ∙ c.in-New.is))

pub returns-in_ok-meet-in-New-clause-less : goal.returns-in_ok-meet-in-New-clause-less
returns-in_ok-meet-in-New-clause-less g c =
    let s = c.args.self.now in
    let ok = c.in_ok-meet-in-New.ensures in
    let named = c.get-named.result.now in
    let at = c.first_unplaced-at.result in
    let to = get_or named at 0 in
    let lt : at < length named = omega (arith, c.first_unplaced-at.ensures.passed.0) in
    let inside = next_marked _ _ _ _ _ named _ at c.requires.nodes c.requires.walk c.get-named.ensures.value lt in
    let fewer = count_meets s.marks.items to inside (mark_read s.marks.items to c.index-2.result.now inside c.index-2.ensures ∙ c.in-New.is) in
    rw (ok.marks, ok.path, c.in_ok-push-in-New.ensures.items) (omega (arith, fewer, length-append (s.path.items ++ c.args.top ∷ []) (to ∷ []), length-append s.path.items (c.args.top ∷ [])))

pub returns-in_default : goal.returns-in_default
returns-in_default g c =
    let marks = c.args.self.now.marks.items in
    let named = c.get-named.result.now in
    let at = c.first_unplaced-at.result in
    let to = get_or named at 0 in
    let lt : at < length named = omega (arith, c.first_unplaced-at.ensures.passed.0) in
    let names = top_names c.args.graph.now named c.args.top at c.get-named.ensures.value lt in
    let inside = next_marked _ _ _ _ _ named _ at c.requires.nodes c.requires.walk c.get-named.ensures.value lt in
    let read = mark_read marks to c.index-2.result.now inside c.index-2.ensures in
    let unplaced : mark_at marks to ≡ Placed → ⊥ = rw c.deref.ensures.value at (c.first_unplaced-at.ensures.unplaced lt) in
    let met = is_met (mark_at marks to) (λ new. c.in_default.not-New (sym read ∙ new)) unplaced in
    record {
      walk = rw c.clear.ensures.items (step_stops _ _ _ _ _ c.args.top at to c.requires.walk (passed_of g (goal.at.returns-in_default g c).After-first_unplaced-at) names met);
      marked = λ i marked. marked;
      less = rw c.clear.ensures.items (omega arith);
    }
