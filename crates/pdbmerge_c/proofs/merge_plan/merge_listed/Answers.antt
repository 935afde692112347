use Rattle.std.proofs.Common.{◌≡◌, ◌≢◌, [], None, Some, Ok, refl, arith}
use Rattle.pdbmerge_c.proofs.PlanLaws.{has_merged}
use Rattle.pdbmerge_c.proofs.merge_plan.merge_listed.Goals.{then-choices-eq0+in_ok-done, else-choices-eq0+in_ok-done-2+in-Ok, else-choices-eq0+in_ok-done-2+in-Err}
use Rattle.pdbmerge_c.proofs.merge_plan.merge_listed.Goals as goal

pub returns-in-Ok-listed-clause-value : goal.returns-in-Ok-listed-clause-value
returns-in-Ok-listed-clause-value c =
    let listed = c.in-Ok-listed.listed in
    elim c.if-choices-eq0.branch [
      | then-choices-eq0+in_ok-done w ↦
          let done = w.in_ok-done.done in
          let call = w.list_merged-listed in
          let ok : call.result ≡ Ok listed = cc in
          let maps = rw ok at call.ensures.maps in
          let none : c.args.choices.now.maps ≡ 0 = cc in
          rw (rw ok at call.ensures.file, rw ok at call.ensures.report)
          (has_merged c.args.files.now c.args.choices.now c.args.plan.now done.file.writer.items done.merged.summary done.merged.left_out.items None [] listed.maps.indices.items listed.maps.counts.items listed.left_out.items
          c.requires w.in_ok-done.ensures.value w.in_ok-done.ensures.spared (rw ok at call.ensures.left_out) (λ other. absurd (other none)) (λ same. refl)
          (rw maps w.new.ensures.indices) (rw maps w.new.ensures.counts))
      | else-choices-eq0+in_ok-done-2+in-Ok w ↦
          let done = w.in_ok-done-2.done in
          let call = w.list_merged in
          let ok : call.result ≡ Ok listed = cc in
          let maps = rw ok at call.ensures.maps in
          let some : c.args.choices.now.maps ≢ 0 = omega (arith, w.if-choices-eq0) in
          rw (rw ok at call.ensures.file, rw ok at call.ensures.report)
          (has_merged c.args.files.now c.args.choices.now c.args.plan.now done.file.writer.items done.merged.summary done.merged.left_out.items (Some done.merged.maps) done.merged.maps listed.maps.indices.items listed.maps.counts.items listed.left_out.items
          c.requires w.in_ok-done-2.ensures.value w.in_ok-done-2.ensures.spared (rw ok at call.ensures.left_out) (λ other. refl) (λ same. absurd (some same))
          (rw maps w.in-Ok.ensures.indices) (rw maps w.in-Ok.ensures.counts))
      | else-choices-eq0+in_ok-done-2+in-Err w ↦ absurd cc
    ]
