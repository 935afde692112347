-- The numbers of the faults of a record.
use Rattle.std.specs.Prelude.{ℕ}
use Rattle.cv_leaves.specs.declared.fault.LeafFault.{LeafFault}
use Rattle.cv_leaves.specs.declared.fault.LeafFault.TheVariants as leaves

-- the number of a fault
abbrev pub leaf_number : LeafFault → ℕ
leaf_number (leaves.Leaf _) = 25
leaf_number (leaves.Body _) = 26
leaf_number (leaves.Member _ _) = 27
leaf_number (leaves.Numeric _) = 28
leaf_number (leaves.Name _) = 29
leaf_number (leaves.Pad _) = 30
