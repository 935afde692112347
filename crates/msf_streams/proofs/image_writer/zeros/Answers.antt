use Rattle.std.proofs.lemmas.List.{take-replicate}
use Rattle.msf_streams.proofs.image_writer.zeros.Goals as goal

pub returns : goal.returns
returns c = take-replicate c.args.count 32768 0 c.requires
