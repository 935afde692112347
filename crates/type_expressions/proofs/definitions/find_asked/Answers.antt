use Rattle.type_expressions.proofs.AskedLaws.{asked_goes, asked_ends}
use Rattle.type_expressions.proofs.definitions.find_asked.Goals as goal

pub loop-k-preserved : goal.loop-k-preserved
loop-k-preserved g c = record {
  so_far = λ trees are. asked_goes trees c.args.asked.now c.loop-k.asked c.loop-k.k _ c.best_of-one.result c.loop-k-test.true (c.loop-k.invariant.so_far trees are) (c.best_of-one.ensures trees are);
}

pub returns : goal.returns
returns g c = λ trees are. asked_ends trees c.args.asked.now c.loop-k.asked c.loop-k.k c.loop-k-test.false (c.loop-k.invariant.so_far trees are)
