use Rattle.std.proofs.Common.{arith}
use Rattle.type_table.proofs.CanonTableLaws.{canon_short}
use Rattle.canonical_list.proofs.FinishLaws.{table_small}
use Rattle.pdb_merge.proofs.write.header_of.Goals as goal

pub overflow_cast-count : goal.overflow_cast-count
overflow_cast-count g c =
    let small = table_small c.args.canon.now c.len-count.ensures.canon.table (canon_short c.args.canon.now c.len-count.ensures.canon) in
    omega (arith, small, c.len-count.ensures.value)

pub tpi_header_bytes-requires : goal.tpi_header_bytes-requires
tpi_header_bytes-requires g c =
    let small = table_small c.args.canon.now c.len-count.ensures.canon.table (canon_short c.args.canon.now c.len-count.ensures.canon) in
    omega (arith, small, c.len-count.ensures.value)
