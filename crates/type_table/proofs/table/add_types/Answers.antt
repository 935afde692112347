use Rattle.std.proofs.Common.{◌<◌, ◌≤◌, ap, arith, length}
use Rattle.type_table.proofs.AddLaws.{added_within, union_weighs, too_large}
use Rattle.type_table.proofs.KeptLaws.{knows_still}
use Rattle.type_table.proofs.MapLaws.{numbers_map}
use Rattle.type_table.proofs.table.add_types.Goals as goal

pub measure_new-requires-clause-known : goal.measure_new-requires-clause-known
measure_new-requires-clause-known g c = knows_still c.args.records.now c.add_in_order.new.records c.args.depths.now.items c.requires.table c.in_ok-add_in_order.ensures.front c.requires.depths

pub returns-then-bytes-from-clause-large : goal.returns-then-bytes-from-clause-large
returns-then-bytes-from-clause-large g c =
    let added = c.in_ok-add_in_order.ensures.added in
    let u = union_weighs c.args.records.now c.args.types.now c.add_in_order.new.records added.table added.value in
    let more : c.args.limit < length c.bytes.result.now = omega (arith, c.if-bytes-from.true, c.from.ensures) in
    too_large c.args.records.now c.args.types.now c.add_in_order.new.records _ c.args.limit u (ap length c.bytes.ensures.value) more

pub returns-clause-added : goal.returns-clause-added
returns-clause-added g c =
    let ok = c.in_ok-add_in_order.ensures in
    let bytes : length c.bytes.result.now ≤ c.args.limit = omega (arith, c.if-bytes-from.false, c.from.ensures) in
    added_within c.args.types.now c.args.records.now c.add_in_order.new.records c.args.limit c.numbers.result.now _ _ ok.added ok.front (rw c.numbers.ensures ok.numbers) (omega (arith, ap length c.bytes.ensures.value, bytes)) c.in_ok-keep.ensures.ok

pub keep-requires : goal.keep-requires
keep-requires g c =
    let ok = c.in_ok-add_in_order.ensures in
    rw c.numbers.ensures (numbers_map c.args.types.now c.args.records.now c.add_in_order.new.records _ ok.added ok.few ok.numbers)
