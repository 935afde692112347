use Rattle.std.proofs.Common.{Ok, Err}
use Rattle.pdb_merge.proofs.PlanLaws.{stop_merges, summary_of}
use Rattle.pdb_merge.proofs.whole_files.merge_to.Goals as goal

pub returns-in-Ok : goal.returns-in-Ok
unfolding summary_of
returns-in-Ok g c =
    let new = c.new.ensures in
    stop_merges (g.I.Inputs.known c.args.files) (g.I.BoundedInputs.needs c.args.files) c.new.result c.args.settings.now _ g.W.Sink.taken g.W.Sink.is_broken c.args.out.now c.merge.new.out (Ok c.in-Ok.merged)
    new.settings new.guid new.refused (rw c.in-Ok.is at c.merge.ensures)

pub returns-in-Err : goal.returns-in-Err
unfolding summary_of
returns-in-Err g c =
    let new = c.new.ensures in
    stop_merges (g.I.Inputs.known c.args.files) (g.I.BoundedInputs.needs c.args.files) c.new.result c.args.settings.now _ g.W.Sink.taken g.W.Sink.is_broken c.args.out.now c.merge.new.out (Err c.in-Err.fault)
    new.settings new.guid new.refused (rw c.in-Err.is at c.merge.ensures)
