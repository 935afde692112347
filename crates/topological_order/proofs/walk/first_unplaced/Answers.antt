use Rattle.std.proofs.lemmas.List.Elements.{Contains-get_or}
use Rattle.topological_order.proofs.walk.first_unplaced.Goals as goal

pub bounds : goal.bounds
bounds c = c.requires.inside _ (Contains-get_or c.args.row.now c.loop-at.at 0 c.loop-at-test.true)
