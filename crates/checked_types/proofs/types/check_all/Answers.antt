use Rattle.std.proofs.Common.{◌≡◌, ◌≤◌, ◌∷◌, ◌∙◌, ◌<◌, ℕ, get_or, sym, ap, arith, length, rules}
use Rattle.cv_leaves.specs.References.{references}
use Rattle.type_trees.specs.Depth.{depth_above, AreBelow}
use Rattle.type_trees.specs.Types.{NamesThere}
use Rattle.std.proofs.lemmas.Result.{err_from_is_err_and}
use Rattle.tpi_records.specs.Records.{IsRecord}
use Rattle.cv_leaves.proofs.TestLaws.{and_both}
use Rattle.checked_types.proofs.CheckLaws.{record_held, record_fails, no_records}
use Rattle.type_trees.proofs.WalkLaws.{each_other}
use Rattle.checked_types.proofs.DeepLaws.{next_left, walk_more, low_more, walk_ends, walk_measured}
use Rattle.checked_types.proofs.types.check_all.Goals as goal

pub returns-in_err-depth-clause-first : goal.returns-in_err-depth-clause-first
returns-in_err-depth-clause-first g c =
    let split : c.loop-bytes.bytes-iterator ≡ c.in-Some.bytes.now ∷ c.next.new.self = search rules in
    let fails = record_fails c.len-many.result c.loop-bytes.position c.in-Some.bytes.now c.loop-bytes.bytes-iterator c.next.new.self c.in_err-depth.field-0.0 split c.in_err-depth.ensures.first in
    let p = err_from_is_err_and c.from_residual.result c.from_residual.ensures.1 in
    rw (p.1, p.2) (sym c.loop-bytes.invariant.rest ∙ fails)

pub loop-bytes-preserved : goal.loop-bytes-preserved
loop-bytes-preserved g c =
    let so_far = c.loop-bytes.invariant in
    let records = c.args.records.now in
    let position = c.loop-bytes.position in
    let left = c.loop-bytes.bytes-iterator in
    let others = c.next.new.self in
    let split : left ≡ c.in-Some.bytes.now ∷ others = search rules in
    let inside : position < length records = omega (arith, so_far.few.0, ap length split, c.len-many.ensures.value) in
    let ok = c.in_ok-depth.ensures in
    let kept = c.keep_depth-all.ensures in
    record {
      rest = sym (record_held c.len-many.result position c.in-Some.bytes.now left others split ok.first) ∙ so_far.rest;
      each = (each_other IsRecord c.in-Some.bytes.now left others split so_far.each).1;
      few = (omega (arith, so_far.few.0, ap length split), so_far.few.1);
      left = next_left records position c.in-Some.bytes.now left others split so_far.left inside;
      low = low_more position c.loop-bytes.depths _ c.in_ok-depth.depth c.keep_depth-all.result so_far.low ok.bound kept.kept kept.same;
      walked = λ yes.
          let both = and_both c.loop-bytes.all c.keep_depth-all.result yes in
          let d = kept.kept both.1 in
          let names : NamesThere position (references c.in-Some.bytes.now) = rw d.1 at ok.lower in
          let deep : d.0 ≡ depth_above (λ k. get_or c.loop-bytes.depths k 0) (references c.in-Some.bytes.now) = rw d.1 at ok.depth in
          let low : (bound : ℕ) → AreBelow bound c.loop-bytes.depths → d.0 ≤ bound = rw d.1 at ok.bound in
          walk_more records position d.0 c.in-Some.bytes.now left others c.args.depths.now c.loop-bytes.depths c.keep_depth-all.new.depths split so_far.left inside (so_far.walked both.0) names deep low d.2;
    }

pub returns-clause-first : goal.returns-clause-first
returns-clause-first g c = sym c.loop-bytes.invariant.rest ∙ no_records c.len-many.result c.loop-bytes.position c.loop-bytes.bytes-iterator (c.in-None.ensures.steps).0

pub returns-clause-lower : goal.returns-clause-lower
returns-clause-lower g c = λ all. walk_ends c.args.records.now c.loop-bytes.bytes-iterator c.loop-bytes.position c.args.depths.now c.loop-bytes.depths (c.in-None.ensures.steps).0 (c.loop-bytes.invariant.walked all)

pub returns-clause-measured : goal.returns-clause-measured
returns-clause-measured g c = λ all.
    let so_far = c.loop-bytes.invariant in
    let none = (c.in-None.ensures.steps).0 in
    let end : c.loop-bytes.position ≡ length c.args.records.now = omega (arith, so_far.few.0, ap length none, c.len-many.ensures.value) in
    walk_measured c.args.records.now c.loop-bytes.bytes-iterator c.loop-bytes.position c.args.depths.now c.loop-bytes.depths c.len-many.ensures.each (returns-clause-first g c) none end (omega (arith, so_far.few.1, c.len-many.ensures.value)) (so_far.walked all)
