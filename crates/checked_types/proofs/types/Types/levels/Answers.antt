use Rattle.type_trees.proofs.TreeLaws.{tree_there}
use Rattle.type_trees.proofs.DepthLaws.{levels_counted}
use Rattle.checked_types.proofs.types.Types.levels.Goals as goal

pub levels_of-requires : goal.levels_of-requires
levels_of-requires g c = record { low = rw c.deref.ensures.value c.self.invariant.measured.low }

pub returns : goal.returns
returns g c =
    let types = c.self.invariant.measured.types in
    let many = c.self.invariant.measured.many in
    rw (← c.self.view_is) (levels_counted c.self.inside.records c.self.inside.depths.items c.levels_of.result (λ i inside. tree_there _ types.ranked.0 i types.ranked.1 inside) many c.self.invariant.measured.measured (rw c.deref.ensures.value at c.levels_of.ensures))
