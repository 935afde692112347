use Rattle.msf_streams.proofs.FitLaws.{few_blocks_fit}
use Rattle.msf_streams.proofs.laws.few_blocks_fit.Goals as goal

pub returns : goal.returns
returns c = few_blocks_fit
