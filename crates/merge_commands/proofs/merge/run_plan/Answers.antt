use Rattle.std.proofs.Common.{refl}
use Rattle.std.proofs.lemmas.Result.{err_from_is_err_and}
use Rattle.merge_commands.specs.Plan.{sunk}
use Rattle.merge_commands.proofs.PlanLaws.{plan_refused, plan_unmapped, plan_untold}
use Rattle.merge_commands.proofs.merge.run_plan.Goals as goal

pub returns-in_err-merged : goal.returns-in_err-merged
returns-in_err-merged g c =
    let p = err_from_is_err_and c.from_residual.result c.from_residual.ensures.1 in
    rw (p.1, p.2)
    (plan_refused (g.I.Inputs.known c.args.files) (g.I.BoundedInputs.needs c.args.files) c.args.plan.now g.K.KeepMaps.maps
    (sunk g.W.Sink.taken g.W.Sink.is_broken c.args.out.now c.merge.new.out)
    (sunk g.M.Sink.taken g.M.Sink.is_broken c.args.map.now c.args.map.now)
    (sunk g.V.Sink.taken g.V.Sink.is_broken c.args.report.now c.args.report.now)
    c.in_err-merged.field-0.0 c.in_err-merged.ensures refl refl)

pub returns-in_err-write_maps : goal.returns-in_err-write_maps
returns-in_err-write_maps g c =
    let p = err_from_is_err_and c.from_residual-in_err-write_maps.result c.from_residual-in_err-write_maps.ensures.1 in
    let e = c.in_err-write_maps.ensures in
    rw (p.1, p.2)
    (plan_unmapped (g.I.Inputs.known c.args.files) (g.I.BoundedInputs.needs c.args.files) c.args.plan.now g.K.KeepMaps.maps
    (sunk g.W.Sink.taken g.W.Sink.is_broken c.args.out.now c.merge.new.out)
    (sunk g.M.Sink.taken g.M.Sink.is_broken c.args.map.now c.write_maps.new.out)
    (sunk g.V.Sink.taken g.V.Sink.is_broken c.args.report.now c.args.report.now)
    c.in_ok-merged.merged c.in_err-write_maps.field-0.0 c.in_ok-merged.ensures e.fault (λ is. e.write cc) (λ is. e.memory cc) refl)

pub returns-in_err-report_on : goal.returns-in_err-report_on
returns-in_err-report_on g c =
    let p = err_from_is_err_and c.from_residual-in_err-report_on.result c.from_residual-in_err-report_on.ensures.1 in
    let e = rw c.len-left_out.ensures at c.in_err-report_on.ensures in
    rw (p.1, p.2)
    (plan_untold (g.I.Inputs.known c.args.files) (g.I.BoundedInputs.needs c.args.files) c.args.plan.now g.K.KeepMaps.maps
    (sunk g.W.Sink.taken g.W.Sink.is_broken c.args.out.now c.merge.new.out)
    (sunk g.M.Sink.taken g.M.Sink.is_broken c.args.map.now c.write_maps.new.out)
    (sunk g.V.Sink.taken g.V.Sink.is_broken c.args.report.now c.report_on.new.report)
    c.in_ok-merged.merged c.in_err-report_on.field-0.0 c.in_ok-merged.ensures c.in_ok-write_maps.ensures.value e.fault (λ is. e.write cc) (λ is. e.untouched cc))
