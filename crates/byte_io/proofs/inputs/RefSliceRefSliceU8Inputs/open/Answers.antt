use Rattle.std.proofs.Common.{[], refl}
use Rattle.byte_io.proofs.InputsLaws.{slice_read}
use Rattle.byte_io.proofs.inputs.RefSliceRefSliceU8Inputs.open.Goals as goal

pub returns-clause-value : goal.returns-clause-value
returns-clause-value g c = (_, slice_read c.args.self.now.now c.args.input (record { ref_ptr = (0, 0); now = [] }) c.requires.inside, refl)
