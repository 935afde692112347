use Rattle.std.specs.Prelude.{IfSome}
use Rattle.byte_io.specs.Inputs.{CanRead}
use Rattle.pdb_merge.proofs.input.check_rest.Given as goal

abbrev pub invariant-loop-input : goal.invariant-loop-input
invariant-loop-input g l = IfSome (g.I.Inputs.known l.inputs) (λ each. CanRead each l.input)
