use Rattle.pdb_merge.proofs.UnionLaws.{refused_add_nothing}
use Rattle.pdb_merge.proofs.laws.refused_add_nothing.Goals as goal

pub returns : goal.returns
returns c = refused_add_nothing
