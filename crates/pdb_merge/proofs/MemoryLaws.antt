-- Out of memory is never inside another fault.
use Rattle.std.proofs.Common.{◌≡◌}
use Rattle.pdb_merge.specs.Fault.{add_from_pdb, add_from_join, AddNamesFault}
use Rattle.type_table.specs.declared.fault.JoinFault.{JoinFault}
use Rattle.type_table.specs.declared.fault.JoinFault.TheVariants as join
use Rattle.pdb_merge.specs.declared.fault.AddFault.{AddFault}
use Rattle.file_types.specs.declared.fault.PdbFault.{PdbFault}
use Rattle.file_types.specs.declared.fault.PdbFault.TheVariants as pdb

-- a fault that is made of one of the file or of the union is not out of memory
pub pdb_named : {A : Type 0} (inner : PdbFault A) (outer : AddFault A) → outer ≡ add_from_pdb inner → AddNamesFault outer
pdb_named pdb.Memory outer made = rw made tt
pdb_named inner outer made = rw made (λ is. cc)

pub join_named : {A : Type 0} (inner : JoinFault) (outer : AddFault A) → outer ≡ add_from_join inner → AddNamesFault outer
join_named (join.TooLarge bytes) outer made = rw made tt
join_named join.Memory outer made = rw made tt
