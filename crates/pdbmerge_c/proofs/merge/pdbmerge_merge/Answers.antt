use Rattle.std.proofs.Common.{◌∙◌, sym, inl, inr}
use Rattle.pdb_info.specs.Settings.{record_limit}
use Rattle.pdb_merge.specs.Answer.{RefusesFiles}
use Rattle.pdbmerge_c.specs.Merge.{inputs_of, settings_of}
use Rattle.pdbmerge_c.proofs.MergeLaws.{memory_refuses, only_memory, tells_memory, tells_reason}
use Rattle.pdbmerge_c.proofs.merge.pdbmerge_merge.Goals as goal

pub returns-in-Err-clause-refuses : goal.returns-in-Err-clause-refuses
returns-in-Err-clause-refuses c = λ some room settings.
    let files = c.args.files.now in
    let its = settings_of c.args.choices.now in
    tells_reason (RefusesFiles (inputs_of files) (record_limit its)) c.in-Err.why c.refuse_merge.new.fault (rw c.in-Some.ensures.value at c.in-Err.ensures.refuses) (memory_refuses files (record_limit its)) c.refuse_merge.ensures.reason

pub returns-in-Err-clause-found : goal.returns-in-Err-clause-found
returns-in-Err-clause-found c = λ allowed can.
    let files = c.args.files.now in
    let its = settings_of c.args.choices.now in
    inr (inl (sym c.refuse_merge.ensures.told ∙ tells_memory (RefusesFiles (inputs_of files) (record_limit its)) c.in-Err.why c.refuse_merge.new.fault (rw c.in-Some.ensures.value at c.in-Err.ensures.refuses) (only_memory files its can) c.refuse_merge.ensures.reason))
