-- A table whose depths are known.
use Rattle.std.specs.Prelude.{ℕ, ◌<◌, ◌^◌, List, length}
use Rattle.std.specs.List.{concat}
use Rattle.type_trees.specs.Depth.{HasDepths}
use Rattle.type_trees.specs.Table.{IsTable}

-- the records make a table that can be written, and these are the depths of its types
pub record IsMeasuredTable (records : List (List ℕ)) (depths : List ℕ) : Type 0 where
  pub table : IsTable records
  pub short : length (concat records) < 2 ^ 32
  pub measured : HasDepths records depths
