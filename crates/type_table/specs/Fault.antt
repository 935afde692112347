-- The numbers of the faults of a union.
use Rattle.std.specs.Prelude.{ℕ}
use Rattle.type_table.specs.declared.fault.JoinFault.{JoinFault}
use Rattle.type_table.specs.declared.fault.JoinFault.TheVariants as join

-- the number of a fault
abbrev pub join_number : JoinFault → ℕ
join_number (join.TooLarge _) = 32
join_number join.Memory = 33
