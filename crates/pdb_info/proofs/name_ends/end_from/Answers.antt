use Rattle.pdb_info.proofs.EndLaws.{end_after, end_between}
use Rattle.pdb_info.proofs.name_ends.end_from.Goals as goal

pub returns-in-Some : goal.returns-in-Some
returns-in-Some c = end_between c.args.buffer.now c.between.result.now c.args.start c.args.stop c.in-Some.len c.between.ensures c.requires.order c.requires.inside (rw c.in-Some.is at c.find_byte.ensures)

pub returns-in-None : goal.returns-in-None
returns-in-None c = end_after c.args.buffer.now c.between.result.now c.args.start c.args.stop c.args.end c.between.ensures c.requires.order c.requires.inside c.requires.known (rw c.in-None.is at c.find_byte.ensures)
