use Rattle.std.proofs.Common.{◌∙◌, sym, inl, inr}
use Rattle.pdb_info.specs.Settings.{record_limit}
use Rattle.pdbmerge_c.specs.Merge.{settings_of}
use Rattle.pdbmerge_c.specs.MergePlan.{IsRefusalBy, MustStayBy}
use Rattle.pdbmerge_c.proofs.MergeLaws.{memory_sifts, only_memory_sifts, tells_memory, tells_reason}
use Rattle.pdbmerge_c.proofs.merge_plan.pdbmerge_merge_plan.Goals as goal

pub returns-in-Err-clause-refuses : goal.returns-in-Err-clause-refuses
returns-in-Err-clause-refuses c = λ some room settings.
    let files = c.args.files.now in
    let plan = c.args.plan.now in
    tells_reason (IsRefusalBy files plan) c.in-Err.why c.refuse_merge.new.fault c.in-Err.ensures.refuses (memory_sifts files (MustStayBy plan) (record_limit (settings_of plan.settings))) c.refuse_merge.ensures.reason

pub returns-in-Err-clause-found : goal.returns-in-Err-clause-found
returns-in-Err-clause-found c = λ allowed can.
    let files = c.args.files.now in
    let plan = c.args.plan.now in
    inr (inl (sym c.refuse_merge.ensures.told ∙ tells_memory (IsRefusalBy files plan) c.in-Err.why c.refuse_merge.new.fault c.in-Err.ensures.refuses (only_memory_sifts files (MustStayBy plan) (record_limit (settings_of plan.settings)) can) c.refuse_merge.ensures.reason))
