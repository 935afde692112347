use Rattle.std.proofs.Common.{◌∙◌, ap, get_or, length}
use Rattle.pdbmerge_c.proofs.OffsetLaws.{all_listed, offset_at, offsets_many}
use Rattle.pdbmerge_c.proofs.records.push_offsets.Goals as goal

pub returns-clause-many : goal.returns-clause-many
returns-clause-many c =
    let records = c.args.records.now in
    let all = all_listed c.loop-bytes.offsets.items c.loop-bytes.at c.loop-bytes.bytes-iterator records c.loop-bytes.invariant.listed (c.in-None.ensures.steps).0 in
    ap length all ∙ offsets_many 56 records

pub returns-clause-each : goal.returns-clause-each
returns-clause-each c = λ i inside.
    let records = c.args.records.now in
    let all = all_listed c.loop-bytes.offsets.items c.loop-bytes.at c.loop-bytes.bytes-iterator records c.loop-bytes.invariant.listed (c.in-None.ensures.steps).0 in
    ap (λ os. get_or os i 0) all ∙ offset_at 56 records i inside
