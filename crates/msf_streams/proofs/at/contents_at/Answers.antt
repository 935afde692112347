use Rattle.msf_streams.proofs.AtLaws.{stream_known}
use Rattle.msf_streams.proofs.at.contents_at.Goals as goal

pub returns-in-Some-clause-value : goal.returns-in-Some-clause-value
returns-in-Some-clause-value g c = λ file known.
    stream_known file c.args.layout.now c.args.s c.in-Some.part.now (c.requires file known) (rw known at c.in-Some.ensures.text)
