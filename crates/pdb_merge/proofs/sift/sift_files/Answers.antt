use Rattle.std.proofs.Common.{◌≡◌, ◌∙◌, ◌≤◌, [], refl, arith}
use Rattle.std.proofs.lemmas.Result.{err_from_is_err_and}
use Rattle.type_trees.specs.Tree.{IsType}
use Rattle.pdb_info.specs.Settings.{record_limit}
use Rattle.pdb_merge.proofs.InputLaws.{every_read, take_given}
use Rattle.pdb_merge.proofs.ReadBackLaws.{canon_within}
use Rattle.pdb_merge.specs.Sift.{MustStay}
use Rattle.pdb_merge.proofs.SiftLaws.{known_inside, memory_refuses, sifted_can, sifted_canon, sifted_maps, sifts_none}
use Rattle.pdb_merge.proofs.sift.sift_files.Goals as goal

pub loop-input-init : goal.loop-input-init
loop-input-init g c =
    let none : c.new-left_out.result.items ≡ [] = c.new-left_out.ensures.items in
    record {
      so_far = rw none (sifts_none g.row.A.Denot (g.I.Inputs.known c.args.files) (MustStay c.args.plan.now.refused (g.I.BoundedInputs.needs c.args.files)) c.new-merge.result c.new-merge.ensures.types c.new-merge.ensures.maps);
      limit = refl;
    }

pub sift_input-requires-clause-inside : goal.sift_input-requires-clause-inside
sift_input-requires-clause-inside g c =
    known_inside (g.I.Inputs.known c.args.files) c.loop-input.input c.count-input-end.result c.count-input-end.ensures (omega (arith, c.loop-input-test.true))

pub returns-in_err-sift_input-clause-refuses : goal.returns-in_err-sift_input-clause-refuses
returns-in_err-sift_input-clause-refuses g c =
    let p = err_from_is_err_and c.from_residual.result c.from_residual.ensures.1 in
    let limit : c.loop-input.merge.limit ≡ record_limit c.args.plan.now.settings = c.loop-input.invariant.limit ∙ c.new-merge.ensures.limit ∙ c.record_limit-limit.ensures.value in
    rw (p.1, p.2, ← limit) c.in_err-sift_input.ensures.refuses

pub returns-in-Ok-clause-value : goal.returns-in-Ok-clause-value
returns-in-Ok-clause-value g c = λ files given.
    let past : c.count-input-end.result ≤ c.loop-input.input = omega (arith, c.loop-input-test.false) in
    let all = take_given (g.I.Inputs.known c.args.files) files c.loop-input.input c.count-input-end.result given c.count-input-end.ensures past in
    sifted_canon c.loop-input.merge c.in-Ok.canon files c.loop-input.left_out.items c.in-Ok.ensures.value (rw all at (c.loop-input.invariant.so_far.sifted files given))

pub returns-in-Ok-clause-left : goal.returns-in-Ok-clause-left
returns-in-Ok-clause-left g c = λ files given.
    let past : c.count-input-end.result ≤ c.loop-input.input = omega (arith, c.loop-input-test.false) in
    let all = take_given (g.I.Inputs.known c.args.files) files c.loop-input.input c.count-input-end.result given c.count-input-end.ensures past in
    (rw all at (c.loop-input.invariant.so_far.sifted files given)).leaves

pub returns-in-Ok-clause-maps : goal.returns-in-Ok-clause-maps
returns-in-Ok-clause-maps g c = λ files given.
    let past : c.count-input-end.result ≤ c.loop-input.input = omega (arith, c.loop-input-test.false) in
    let all = take_given (g.I.Inputs.known c.args.files) files c.loop-input.input c.count-input-end.result given c.count-input-end.ensures past in
    sifted_maps c.loop-input.merge c.in-Ok.canon files c.loop-input.left_out.items (g.K.KeepMaps.maps c.in-Ok.maps) c.in-Ok.ensures.followed (rw all at (c.loop-input.invariant.so_far.sifted files given))

pub returns-in-Ok-clause-within : goal.returns-in-Ok-clause-within
returns-in-Ok-clause-within g c =
    let limit : c.loop-input.merge.limit ≡ record_limit c.args.plan.now.settings = c.loop-input.invariant.limit ∙ c.new-merge.ensures.limit ∙ c.record_limit-limit.ensures.value in
    rw (← limit) (canon_within (IsType c.loop-input.merge.types) c.in-Ok.canon c.loop-input.merge.limit c.in-Ok.ensures.value c.loop-input.invariant.so_far.within)

pub returns-in-Ok-clause-accepts : goal.returns-in-Ok-clause-accepts
returns-in-Ok-clause-accepts g c =
    let known = g.I.Inputs.known c.args.files in
    let past : c.count-input-end.result ≤ c.loop-input.input = omega (arith, c.loop-input-test.false) in
    let limit : c.loop-input.merge.limit ≡ record_limit c.args.plan.now.settings = c.loop-input.invariant.limit ∙ c.new-merge.ensures.limit ∙ c.record_limit-limit.ensures.value in
    record {
      read = every_read known c.loop-input.input c.count-input-end.result c.loop-input.invariant.so_far.read c.count-input-end.ensures past;
      can = λ files given.
          let all = take_given known files c.loop-input.input c.count-input-end.result given c.count-input-end.ensures past in
          rw (← limit) (sifted_can (MustStay c.args.plan.now.refused (g.I.BoundedInputs.needs c.args.files)) c.loop-input.merge files c.loop-input.left_out.items c.loop-input.invariant.so_far.spared (rw all at (c.loop-input.invariant.so_far.sifted files given)));
    }

pub returns-clause-refuses : goal.returns-clause-refuses
returns-clause-refuses g c = memory_refuses g.row.A.Denot (g.I.Inputs.known c.args.files) (MustStay c.args.plan.now.refused (g.I.BoundedInputs.needs c.args.files)) (record_limit c.args.plan.now.settings)
