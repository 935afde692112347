use Rattle.std.proofs.Common.{◌∙◌}
use Rattle.msf_blocks.proofs.AtLaws.{number_is}
use Rattle.msf_blocks.proofs.window.read_number.Goals as goal

pub returns-clause-value : goal.returns-clause-value
returns-clause-value g c = λ file known.
    let came = c.in_ok-read_at.ensures in
    c.u32_at.ensures ∙ number_is file c.read_at.new.into c.args.offset (came.value file known) came.same
