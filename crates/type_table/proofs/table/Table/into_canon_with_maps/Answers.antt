use Rattle.type_table.proofs.table.Table.into_canon_with_maps.Goals as goal

pub returns-clause-value : goal.returns-clause-value
returns-clause-value g c = rw (c.into_parts-records.ensures.records, c.self.view_is) at c.list_of.ensures.value
