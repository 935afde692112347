use Rattle.pdbmerge_c.proofs.MergeLaws.{all_refused}
use Rattle.pdbmerge_c.proofs.merge.merge_all.Goals as goal

pub returns-clause-refuses : goal.returns-clause-refuses
returns-clause-refuses c = all_refused c.args.files.now c.args.settings.now c.merge_in_memory.result c.merge_in_memory.ensures.refuses
