use Rattle.std.proofs.Common.{[]}
use Rattle.pdb_info.specs.Settings.{record_limit}
use Rattle.pdbmerge_c.specs.Merge.{bytes_of_files, settings_of}
use Rattle.pdbmerge_c.specs.MergePlan.{parts_of}
use Rattle.pdbmerge_c.proofs.PlanLaws.{follows_all, gives_maps, refuses_all, sifts_all}
use Rattle.pdbmerge_c.proofs.merge_map.pdbmerge_merge_map.Goals as goal

pub returns-clause-value : goal.returns-clause-value
returns-clause-value c = λ done.
    let call = c.pdbmerge_merge_plan-number in
    gives_maps c.args.files.now c.args.choices.now call.new.report call.new.totals (parts_of c.args.out.now c.args.indices.now c.args.counts.now []) (parts_of call.new.out call.new.indices call.new.counts call.new.left_out) (call.ensures.value done)

pub returns-clause-refuses : goal.returns-clause-refuses
returns-clause-refuses c = λ some room settings.
    let call = c.pdbmerge_merge_plan-number in
    refuses_all c.args.files.now c.args.choices.now call.new.fault (call.ensures.refuses some room settings)

pub returns-clause-found : goal.returns-clause-found
returns-clause-found c = λ allowed can.
    let files = bytes_of_files c.args.files.now in
    let choices = c.args.choices.now in
    c.pdbmerge_merge_plan-number.ensures.found (follows_all choices allowed) (sifts_all files choices (record_limit (settings_of choices)) can)
