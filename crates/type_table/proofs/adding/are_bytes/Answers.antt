use Rattle.std.proofs.Common.{arith}
use Rattle.type_table.proofs.adding.are_bytes.Goals as goal

pub returns : goal.returns
returns c = λ k. omega (arith, c.type_inv.text k)
