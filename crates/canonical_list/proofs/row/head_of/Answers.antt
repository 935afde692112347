use Rattle.std.proofs.Common.{arith}
use Rattle.canonical_list.proofs.HeadLaws.{head_is}
use Rattle.canonical_list.proofs.row.head_of.Goals as goal

pub returns : goal.returns
returns c = omega (arith, c.from_be_bytes.ensures, head_is c.args.first.now)
