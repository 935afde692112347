-- The first fault of texts, where the bytes of a file need not be known.
use Rattle.std.proofs.Common.{◌≡◌, ◌⊎◌, ℕ, ◌<◌, List, refl, inl, inr}
use Rattle.type_trees.specs.Tree.{Tree}
use Rattle.type_trees.specs.Canon.{weight}
use Rattle.type_trees.specs.Table.{IsUnion}
use Rattle.type_table.specs.declared.fault.JoinFault.{JoinFault}
use Rattle.type_table.specs.declared.fault.JoinFault.TheVariants as join
use Rattle.file_types.specs.Read.{HasFaultOfTypes, HasTypes, ListsStream}
use Rattle.pdb_merge.specs.Merging.{MergeView, AddsFile, AddsStream}
use Rattle.pdb_merge.specs.Union.{IsAddFault, IsAddFaultOfStream}
use Rattle.file_types.proofs.KnownLaws.{fault_lists, types_lists}
use Rattle.pdb_merge.specs.Fault.{add_from_pdb, add_from_join}
use Rattle.file_types.specs.declared.fault.PdbFault.{PdbFault}
use Rattle.file_types.specs.declared.fault.PdbFault.TheVariants as fault
use Rattle.pdb_merge.specs.declared.fault.AddFault.{AddFault}
use Rattle.pdb_merge.specs.declared.fault.AddFault.TheVariants as add
use Rattle.pdb_merge.proofs.UnionLaws.{union_weighs}

-- a fault of a stream hinders it
pub fault_hinders : {A : Type 0} (before : List (List ℕ)) (limit : ℕ) (stream : List ℕ) (inner : PdbFault A) (outer : AddFault A) → outer ≡ add_from_pdb inner
    → HasFaultOfTypes stream inner ⊎ (inner ≡ fault.Memory) → IsAddFaultOfStream before limit stream outer
fault_hinders before limit stream fault.Memory outer made refused = rw made tt
fault_hinders before limit stream inner outer made (inl refused) = rw made refused
fault_hinders before limit stream inner outer made (inr want) = absurd cc

-- so does a fault of the union
pub union_hinders : {A : Type 0} (before types : List (List ℕ)) (limit : ℕ) (stream : List ℕ) (inner : JoinFault) (outer : AddFault A) → HasTypes stream types → outer ≡ add_from_join inner
    → ((heavy : ℕ) → inner ≡ join.TooLarge heavy → (limit < heavy) × ((l : List Tree) × IsUnion l before types × (weight l ≡ heavy))) → IsAddFaultOfStream before limit stream outer
union_hinders before types limit stream (join.TooLarge heavy) outer has made large =
    let u = large heavy refl in
    rw made (types, has, union_weighs before types u.1.0 heavy u.1.1 u.1.2, u.0)
union_hinders before types limit stream join.Memory outer has made large = rw made tt

-- what the stream of a file adds is what the file adds
pub lists_adds : (before after : MergeView) (file stream : List ℕ) → ListsStream file stream → AddsStream before after stream → AddsFile before after file
lists_adds before after file stream lists adds = record { records = adds.records; accepted = types_lists file stream adds.records lists adds.has; added = adds.added }

-- and what hinders it hinders the file
pub lists_hinders : {A : Type 0} (before : List (List ℕ)) (limit : ℕ) (file stream : List ℕ) (fault : AddFault A) → ListsStream file stream → IsAddFaultOfStream before limit stream fault → IsAddFault before limit file fault
lists_hinders before limit file stream (add.Refused inner) lists refused = fault_lists file stream inner lists refused
lists_hinders before limit file stream (add.TooLarge heavy) lists (records, has, weighs, more) = (records, types_lists file stream records lists has, weighs, more)
lists_hinders before limit file stream add.Memory lists hinders = tt
