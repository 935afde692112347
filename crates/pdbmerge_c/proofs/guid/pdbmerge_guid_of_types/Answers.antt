use Rattle.std.proofs.Common.{◌∙◌, sym, inr}
use Rattle.pdb_info.specs.Settings.{record_limit}
use Rattle.pdb_merge.specs.Answer.{RefusesFiles}
use Rattle.pdbmerge_c.specs.Guid.{settings_for_guid}
use Rattle.pdbmerge_c.specs.Merge.{inputs_of}
use Rattle.pdbmerge_c.proofs.MergeLaws.{memory_refuses, only_memory, tells_memory, tells_reason}
use Rattle.pdbmerge_c.proofs.guid.pdbmerge_guid_of_types.Goals as goal

pub returns-in-Err-clause-refuses : goal.returns-in-Err-clause-refuses
returns-in-Err-clause-refuses c = λ some.
    let files = c.args.files.now in
    tells_reason (RefusesFiles (inputs_of files) (record_limit settings_for_guid)) c.in-Err.why c.refuse_merge.new.fault c.in-Err.ensures.refuses (memory_refuses files (record_limit settings_for_guid)) c.refuse_merge.ensures.reason

pub returns-in-Err-clause-found : goal.returns-in-Err-clause-found
returns-in-Err-clause-found c = λ can.
    let files = c.args.files.now in
    inr (sym c.refuse_merge.ensures.told ∙ tells_memory (RefusesFiles (inputs_of files) (record_limit settings_for_guid)) c.in-Err.why c.refuse_merge.new.fault c.in-Err.ensures.refuses (only_memory files settings_for_guid can) c.refuse_merge.ensures.reason)
