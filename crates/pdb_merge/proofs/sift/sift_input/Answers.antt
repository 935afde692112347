use Rattle.std.proofs.Common.{◌≡◌, ◌∙◌, ap, inl, inr, refl}
use Rattle.pdb_merge.specs.Merging.{MergeView}
use Rattle.pdb_merge.specs.Sift.{MustStay}
use Rattle.pdb_merge.proofs.SiftLaws.{sifts_added, sifts_left, sift_refuses}
use Rattle.pdb_merge.proofs.sift.sift_input.Goals as goal

pub returns-in_default-clause-next : goal.returns-in_default-clause-next
returns-in_default-clause-next g c =
    sifts_added (g.I.Inputs.known c.args.inputs.now) (MustStay c.args.refused (g.I.BoundedInputs.needs c.args.inputs.now)) c.args.input c.args.merge.now c.add_own.new.merge c.args.left_out.now.items
    c.requires.inside c.requires.so_far c.in_default.ensures.value c.in_default.ensures.within c.in_default.ensures.read

pub returns-in-Ok-leave_out-clause-next : goal.returns-in-Ok-leave_out-clause-next
returns-in-Ok-leave_out-clause-next g c =
    let before = c.args.merge.now in
    let after = c.leave_out.new.merge in
    let out = c.in-Ok-leave_out.ensures in
    let kept = c.in-Err.ensures.kept in
    let types : after.types ≡ before.types = out.types ∙ ap (λ (m : MergeView). m.types) kept in
    let limit : after.limit ≡ before.limit = out.limit ∙ ap (λ (m : MergeView). m.limit) kept in
    let maps = rw kept at out.maps in
    let refused = rw c.in-Ok.ensures.ok at c.in-Err.ensures.own in
    let named = rw c.in-Ok.ensures.ok at c.in-Err.ensures.named in
    let read = rw c.in-Ok.ensures.ok at c.in-Err.ensures.first in
    let spared : MustStay c.args.refused (g.I.BoundedInputs.needs c.args.inputs.now) c.args.input → ⊥ = λ stays. let no = c.if-must_stay.ensures.1 stays in absurd cc in
    rw out.left
    (sifts_left (g.I.Inputs.known c.args.inputs.now) (MustStay c.args.refused (g.I.BoundedInputs.needs c.args.inputs.now)) c.args.input before after c.args.left_out.now.items (record { file = c.args.input; fault = c.in-Ok.fault })
    c.requires.inside c.requires.so_far refl named spared refused types limit maps read)

pub returns-in-Err-refused-clause-refuses : goal.returns-in-Err-refused-clause-refuses
returns-in-Err-refused-clause-refuses g c =
    let same : c.in-Err-refused.fault ≡ c.in-Err.fault = c.in-Err-refused.ensures.err.0 in
    sift_refuses (g.I.Inputs.known c.args.inputs.now) (MustStay c.args.refused (g.I.BoundedInputs.needs c.args.inputs.now)) c.args.input c.args.merge.now c.args.left_out.now.items c.in-Err-refused.fault c.refuse-in-Err-refused.result
    c.requires.inside c.requires.so_far (λ given gives. rw same (c.in-Err.ensures.own given gives))
    c.refuse-in-Err-refused.ensures.own c.refuse-in-Err-refused.ensures.kind (inr c.in-Err-refused.ensures.err.1) c.refuse-in-Err-refused.ensures.first c.refuse-in-Err-refused.ensures.named

pub returns-then-must_stay-clause-refuses : goal.returns-then-must_stay-clause-refuses
returns-then-must_stay-clause-refuses g c =
    sift_refuses (g.I.Inputs.known c.args.inputs.now) (MustStay c.args.refused (g.I.BoundedInputs.needs c.args.inputs.now)) c.args.input c.args.merge.now c.args.left_out.now.items c.in-Err.fault c.refuse.result
    c.requires.inside c.requires.so_far c.in-Err.ensures.own
    c.refuse.ensures.own c.refuse.ensures.kind (inl (c.if-must_stay.ensures.0 refl)) c.refuse.ensures.first c.refuse.ensures.named
