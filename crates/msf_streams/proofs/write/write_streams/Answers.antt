use Rattle.std.proofs.Common.{◌∙◌, sym}
use Rattle.msf_streams.specs.Write.{with_texts}
use Rattle.msf_streams.proofs.BackLaws.{image_long_as_said}
use Rattle.msf_streams.proofs.write.write_streams.Goals as goal

pub returns-clause-len : goal.returns-clause-len
returns-clause-len g c =
    let fits = rw c.in-Some.ensures.some at c.in-Some-image_len.ensures.some in
    fits.1 ∙ sym (image_long_as_said c.args.block_size (with_texts c.args.streams.now c.args.texts.now) c.requires fits.0)
