use Rattle.std.proofs.lemmas.Result.{err_from_is_err_and}
use Rattle.tpi_records.specs.Records.{records_in}
use Rattle.pdbmerge_c.proofs.ReferenceLaws.{stream_leaf_fault}
use Rattle.pdbmerge_c.proofs.all_references.list_all_references.Goals as goal

pub returns-in_err-check_leaves-clause-first : goal.returns-in_err-check_leaves-clause-first
returns-in_err-check_leaves-clause-first c =
    let p = err_from_is_err_and c.from_residual-in_err-check_leaves.result c.from_residual-in_err-check_leaves.ensures.1 in
    rw (p.1, p.2) (stream_leaf_fault c.args.stream.now (records_in c.bytes_of_records-bytes.result.now) c.in_err-check_leaves.field-0.0 c.bytes_of_records-bytes.ensures.value c.in_err-check_leaves.ensures.first)
