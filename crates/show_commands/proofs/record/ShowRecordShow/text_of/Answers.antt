use Rattle.show_commands.proofs.record.ShowRecordShow.text_of.Goals as goal

pub returns-clause-refused : goal.returns-clause-refused
returns-clause-refused g c = c.in-Err-indexed_text.ensures.refused _ c.args.layout.now c.in-Ok.ensures.texts
