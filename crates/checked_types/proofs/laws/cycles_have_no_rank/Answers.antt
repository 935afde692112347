use Rattle.checked_types.proofs.CycleLaws.{cycles_have_no_rank}
use Rattle.checked_types.proofs.laws.cycles_have_no_rank.Goals as goal

pub returns : goal.returns
returns c = cycles_have_no_rank
