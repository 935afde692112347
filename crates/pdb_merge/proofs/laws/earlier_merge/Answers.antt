use Rattle.pdb_merge.proofs.FileLaws.{earlier_merge}
use Rattle.pdb_merge.proofs.laws.earlier_merge.Goals as goal

pub returns : goal.returns
returns c = earlier_merge
