use Rattle.pdb_info.proofs.EndLaws.{IsEnding}
use Rattle.pdb_info.proofs.name_ends.ends_of.Given as goal

abbrev pub invariant-loop-parts : goal.invariant-loop-parts
invariant-loop-parts g l = IsEnding l.buffer l.ends.items l.parts l.stop l.end

abbrev pub decreases-loop-parts : goal.decreases-loop-parts
decreases-loop-parts g l = l.parts
