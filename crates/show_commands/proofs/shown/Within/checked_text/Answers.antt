use Rattle.show_commands.proofs.shown.Within.checked_text.Goals as goal

pub returns-in-Record-clause-texts : goal.returns-in-Record-clause-texts
returns-in-Record-clause-texts g c = rw c.in-Record.is c.text_of-in-Record.ensures.texts
