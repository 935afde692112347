use Rattle.canonical_list.specs.Rows.{row_bytes}
use Rattle.canonical_list.proofs.SortLaws.{alike_at_first}
use Rattle.canonical_list.proofs.order.sort_level.Goals as goal

pub sort_rows-requires-clause-alike : goal.sort_rows-requires-clause-alike
sort_rows-requires-clause-alike g c = alike_at_first (row_bytes c.args.records.now c.deref_mut.result.now)
