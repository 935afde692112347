use Rattle.checked_types.proofs.CycleLaws.{one_cycle}
use Rattle.checked_types.proofs.laws.one_cycle.Goals as goal

pub returns : goal.returns
returns c = one_cycle
