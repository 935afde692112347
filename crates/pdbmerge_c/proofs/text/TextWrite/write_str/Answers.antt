use Rattle.pdbmerge_c.proofs.TextLaws.{taken_more}
use Rattle.pdbmerge_c.proofs.text.TextWrite.write_str.Goals as goal

pub loop-byte-preserved : goal.loop-byte-preserved
loop-byte-preserved c =
    taken_more c.args.self.now c.loop-byte.self c.push.new.self c.loop-byte.yielded c.in-Some.byte c.loop-byte.invariant c.push.ensures
