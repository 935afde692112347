use Rattle.std.proofs.Common.{◌*◌, arith}
use Rattle.byte_fields.proofs.NumberLaws.{four_bytes-number_at}
use Rattle.msf_blocks.proofs.window.number_in.Goals as goal

pub returns : goal.returns
returns c = rw c.u32_at.ensures (four_bytes-number_at c.args.bytes.now (4 * c.args.position) (λ i. omega (arith, c.type_inv.bytes i)) c.requires)
