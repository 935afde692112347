use Rattle.msf_streams.proofs.BackLaws.{reads_back}
use Rattle.msf_streams.proofs.laws.images_read_back.Goals as goal

pub returns : goal.returns
returns c = reads_back
