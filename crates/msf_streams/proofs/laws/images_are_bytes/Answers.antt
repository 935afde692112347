use Rattle.msf_streams.proofs.BytesLaws.{image_is_bytes}
use Rattle.msf_streams.proofs.laws.images_are_bytes.Goals as goal

pub returns : goal.returns
returns c = λ block_size contents _ each. image_is_bytes block_size contents each
