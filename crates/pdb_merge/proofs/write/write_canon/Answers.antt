use Rattle.std.proofs.Common.{arith}
use Rattle.type_table.proofs.CanonTableLaws.{canon_short}
use Rattle.canonical_list.proofs.FinishLaws.{table_small}
use Rattle.pdb_merge.proofs.write.write_canon.Goals as goal

pub overflow_cast-types : goal.overflow_cast-types
overflow_cast-types g c =
    let small = table_small c.args.canon.now c.len-types.ensures.canon.table (canon_short c.args.canon.now c.len-types.ensures.canon) in
    omega (arith, small, c.len-types.ensures.value)
