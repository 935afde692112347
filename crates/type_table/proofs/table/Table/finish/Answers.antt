use Rattle.type_table.proofs.table.Table.finish.Goals as goal

pub returns-clause-value : goal.returns-clause-value
returns-clause-value g c = rw (c.in_ok-copy.ensures, c.parts.ensures.records, c.self.view_is) at c.list_of.ensures.value
