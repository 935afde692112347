use Rattle.std.proofs.Common.{◌∙◌, ◌≤◌, ap, arith, length}
use Rattle.tpi_records.proofs.StreamLaws.{counted_records}
use Rattle.type_table.proofs.AddLaws.{added_within}
use Rattle.type_table.proofs.KeptLaws.{knows_still}
use Rattle.type_table.proofs.MapLaws.{numbers_map}
use Rattle.type_table.proofs.table.add_records.Goals as goal

pub measure_new-requires-clause-known : goal.measure_new-requires-clause-known
measure_new-requires-clause-known g c = knows_still c.args.records.now c.add_framed.new.records c.args.depths.now.items c.requires.table c.in_ok-add_framed.ensures.front c.requires.depths

pub returns-clause-added : goal.returns-clause-added
returns-clause-added g c all =
    let of = c.in_ok-add_framed.ensures.added c.if-not-branch.false in
    let header = c.in-Ok.header in
    let bytes : length c.bytes.result.now ≤ c.args.limit = omega (arith, c.if-bytes-from.false, c.from.ensures) in
    record {
      records = of.records;
      has = counted_records c.args.stream.now c.framed_bytes-bytes.result.now header of.records c.framed_bytes-bytes.ensures.value c.in-Ok.ensures.value of.framed (of.counted ∙ c.count.ensures);
      types = of.added.types;
      added = added_within of.records c.args.records.now c.add_framed.new.records c.args.limit c.numbers.result.now _ _ of.added c.in_ok-add_framed.ensures.front (rw c.numbers.ensures of.numbered) (omega (arith, ap length c.bytes.ensures.value, bytes)) c.in_ok-keep.ensures.ok;
    }

pub keep-requires : goal.keep-requires
keep-requires g c =
    let of = c.in_ok-add_framed.ensures.added c.if-not-branch.false in
    rw c.numbers.ensures (numbers_map of.records c.args.records.now c.add_framed.new.records _ of.added of.few of.numbered)
