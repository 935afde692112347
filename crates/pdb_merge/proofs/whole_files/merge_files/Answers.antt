use Rattle.pdb_info.specs.Settings.{record_limit}
use Rattle.pdb_merge.proofs.PlanLaws.{stop_accepts, stop_refuses}
use Rattle.pdb_merge.proofs.whole_files.merge_files.Goals as goal

pub returns-in-Ok-clause-accepts : goal.returns-in-Ok-clause-accepts
returns-in-Ok-clause-accepts g c =
    let new = c.new.ensures in
    stop_accepts (g.I.Inputs.known c.args.files) (g.I.BoundedInputs.needs c.args.files) (record_limit c.args.settings.now) (rw (new.settings, new.refused) at c.in-Ok.ensures.accepts)

pub returns-in-Err-clause-refuses : goal.returns-in-Err-clause-refuses
returns-in-Err-clause-refuses g c =
    let new = c.new.ensures in
    stop_refuses (g.I.Inputs.known c.args.files) (g.I.BoundedInputs.needs c.args.files) (record_limit c.args.settings.now) c.in-Err.fault (rw (new.settings, new.refused) at c.in-Err.ensures.refuses)
