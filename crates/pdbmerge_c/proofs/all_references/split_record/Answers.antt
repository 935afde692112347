use Rattle.tpi_records.proofs.CutLaws.{splits}
use Rattle.pdbmerge_c.proofs.ReferenceLaws.{framed_begins, record_ends}
use Rattle.pdbmerge_c.proofs.all_references.split_record.Goals as goal

pub unreachable-requires : goal.unreachable-requires
unreachable-requires c =
    let begins = framed_begins c.args.bytes.now c.requires.framed c.requires.some in
    let found = c.in_default.ensures.found begins.0 begins.1 in
    absurd cc

pub returns-clause-records : goal.returns-clause-records
returns-clause-records c =
    let ends = record_ends c.args.bytes.now c.in-Ok.record.now c.in-Ok.ensures.value in
    let split = splits c.args.bytes.now c.requires.framed c.requires.some in
    rw (c.split_at.ensures.front, c.split_at.ensures.back) (rw ends at split.records)

pub returns-clause-framed : goal.returns-clause-framed
returns-clause-framed c =
    let ends = record_ends c.args.bytes.now c.in-Ok.record.now c.in-Ok.ensures.value in
    let split = splits c.args.bytes.now c.requires.framed c.requires.some in
    rw c.split_at.ensures.back (rw ends at split.framed)
