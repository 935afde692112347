use Rattle.topological_order.proofs.CycleLaws.{one_cycle_set}
use Rattle.topological_order.proofs.laws.one_cycle_set.Goals as goal

pub returns : goal.returns
returns c = one_cycle_set
