use Rattle.topological_order.proofs.OrderLaws.{orders_rank}
use Rattle.topological_order.proofs.laws.orders_rank.Goals as goal

pub returns : goal.returns
returns c = orders_rank
