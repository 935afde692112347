-- The numbers of the faults of types.
use Rattle.std.specs.Prelude.{ℕ}
use Rattle.cv_leaves.specs.Fault.{leaf_number}
use Rattle.checked_types.specs.declared.fault.TypeFault.{TypeFault}
use Rattle.checked_types.specs.declared.fault.TypeFault.TheVariants as types

-- the number of a fault
abbrev pub type_number : {A : Type 0} → TypeFault A → ℕ
type_number (types.Leaf _ fault) = leaf_number fault
type_number (types.Ref _ _ _) = 31
type_number (types.Cycle _) = 34
type_number types.Memory = 33
