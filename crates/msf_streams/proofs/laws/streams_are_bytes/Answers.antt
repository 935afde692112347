use Rattle.msf_streams.proofs.BytesLaws.{stream_is_bytes}
use Rattle.msf_streams.proofs.laws.streams_are_bytes.Goals as goal

pub returns : goal.returns
returns c = stream_is_bytes
