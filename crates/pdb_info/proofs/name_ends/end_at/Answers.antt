use Rattle.std.proofs.Common.{◌/◌, ◌+◌, arith}
use Rattle.pdb_info.proofs.name_ends.end_at.Goals as goal

pub bounds-ends-part : goal.bounds-ends-part
bounds-ends-part c = (c.requires.ends (c.args.start / 64 + 1) (omega (arith, c.if-part-buffer.true))).0
