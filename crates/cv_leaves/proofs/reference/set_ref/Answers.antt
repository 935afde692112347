use Rattle.std.proofs.Common.{arith}
use Rattle.cv_leaves.proofs.KeepLaws.{place_fits}
use Rattle.cv_leaves.proofs.reference.set_ref.Goals as goal

pub overflow_add-place : goal.overflow_add-place
overflow_add-place c = omega (arith, place_fits c.args.record.now c.args.place c.requires)

pub put_u32-requires : goal.put_u32-requires
put_u32-requires c = omega (arith, place_fits c.args.record.now c.args.place c.requires)
