use Rattle.std.proofs.Common.{length}
use Rattle.std.specs.List.{concat}
use Rattle.pdbmerge_c.proofs.ReferenceLaws.{records_framed}
use Rattle.pdbmerge_c.proofs.all_references.bytes_of_records.Goals as goal

pub unreachable-requires : goal.unreachable-requires
unreachable-requires c =
    let records = c.requires.0 in
    let read = c.in_default.ensures.found (record { count = length records; record_bytes = length (concat records) }) c.requires.1.header in
    absurd cc

pub returns-clause-value : goal.returns-clause-value
returns-clause-value c =
    (records_framed c.args.stream.now c.framed_bytes.result.now c.in-Ok.header c.requires.0 c.framed_bytes.ensures.value c.framed_bytes.ensures.short c.in-Ok.ensures.value c.requires.1).0

pub returns-clause-framed : goal.returns-clause-framed
returns-clause-framed c =
    (records_framed c.args.stream.now c.framed_bytes.result.now c.in-Ok.header c.requires.0 c.framed_bytes.ensures.value c.framed_bytes.ensures.short c.in-Ok.ensures.value c.requires.1).1
