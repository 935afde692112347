-- Types whose depths are known.
use Rattle.std.specs.Prelude.{ℕ, ◌≡◌, ◌<◌, ◌^◌, List, length, set}
use Rattle.topological_order.specs.Order.{IsOrder}
use Rattle.type_trees.specs.Types.{AreTypes}
use Rattle.type_trees.specs.Depth.{AreBelow, AreDepths}
use Rattle.checked_types.specs.Graph.{graph_of}

-- the records are types, each comes in the order after those that it names,
-- and these are their depths
pub record AreMeasured (records : List (List ℕ)) (order depths : List ℕ) : Type 0 where
  pub types : AreTypes records
  pub ordered : IsOrder (graph_of records) order
  pub many : length depths ≡ length records
  pub measured : AreDepths records depths
  pub low : AreBelow (2 ^ 31) depths

-- the depth is stored at the position, which is one of the depths
pub record StoresDepth (old new : List ℕ) (position depth : ℕ) : Type 0 where
  pub inside : position < length old
  pub stored : new ≡ set old position depth
