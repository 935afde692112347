use Rattle.pdb_info.proofs.EndLaws.{none_named, last_named}
use Rattle.pdb_info.proofs.name_ends.ended_length.Goals as goal

pub returns-in-Some : goal.returns-in-Some
returns-in-Some c = last_named c.args.buffer.now c.in-Some.last (rw c.in-Some.is at c.rfind_byte.ensures)

pub returns-in-None : goal.returns-in-None
returns-in-None c = none_named c.args.buffer.now (rw c.in-None.is at c.rfind_byte.ensures)
