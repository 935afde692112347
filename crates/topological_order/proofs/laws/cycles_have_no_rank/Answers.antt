use Rattle.topological_order.proofs.CycleLaws.{cycles_have_no_rank}
use Rattle.topological_order.proofs.laws.cycles_have_no_rank.Goals as goal

pub returns : goal.returns
returns c = cycles_have_no_rank
