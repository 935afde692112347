use Rattle.msf_streams.proofs.AtLaws.{stream_given, stream_known}
use Rattle.msf_streams.proofs.laws.known_stream.Goals as goal

pub returns : goal.returns
returns c = λ file layout s text has. (stream_known file layout s text has, stream_given file layout s text has)
