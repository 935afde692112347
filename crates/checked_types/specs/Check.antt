-- Which records make types, and the checks of that, from left to right.
use Rattle.std.specs.Prelude.{ℕ, ◌≡◌, ◌+◌, ◌⊎◌, nat_lt, List, [], ◌∷◌, ◌++◌, Some, None, length, map}
use Rattle.std.specs.List.{AllByRecursion, flat_map}
use Rattle.byte_fields.specs.Check.{Check, first_failing}
use Rattle.cv_leaves.specs.Checks.{record_checks, places_of}
use Rattle.cv_leaves.specs.declared.fault.LeafFault.{LeafFault}
use Rattle.topological_order.specs.Cycle.{IsCycleSet}
use Rattle.cv_leaves.specs.References.{reference_at, references}
use Rattle.checked_types.specs.Graph.{graph_of}
use Rattle.checked_types.specs.declared.fault.RecordFault.{RecordFault}
use Rattle.checked_types.specs.declared.fault.RecordFault.TheVariants as inner
use Rattle.checked_types.specs.declared.fault.TypeFault.{TypeFault}
use Rattle.checked_types.specs.declared.fault.TypeFault.TheVariants as fault
use Rattle.tpi_records.specs.Header.{first_index}
use Rattle.type_trees.specs.Types.{NamesThere}

-- each reference of these records is simple or names one of this number of records
abbrev pub AllNameThere : ℕ → List (List ℕ) → Type 0
AllNameThere many records = AllByRecursion (λ r. NamesThere many (references r)) records

-- these, in rising order, are the type indices of the records that lead into a cycle:
-- the largest set of records in which each names one of the set
abbrev pub IsCycle : List (List ℕ) → List ℕ → Type 0
IsCycle records indices =
    (positions : List ℕ)
    × IsCycleSet (graph_of records) positions
    × (indices ≡ map (λ p. first_index + p) positions)

-- a check of a record's leaf, as a check of the record at a position
abbrev pub leaf_check : ℕ → Check LeafFault → Check RecordFault
leaf_check position check =
    record { holds = check.holds; fault = inner.Leaf (first_index + position) check.fault }

-- the check of the reference at a place of the record at a position:
-- it is simple or names one of `many` records
abbrev pub reference_check : ℕ → ℕ → List ℕ → ℕ → List (Check RecordFault)
reference_check many position r place =
    record {
      holds = nat_lt (reference_at r place) (first_index + many);
      fault = inner.Ref (first_index + position) place (reference_at r place);
    }
    ∷ []

-- the checks of the references at places
unfoldable pub reference_checks : ℕ → ℕ → List ℕ → List ℕ → List (Check RecordFault)
reference_checks many position r places = flat_map (reference_check many position r) places

-- the checks of the record at a position, one of `many` records:
-- of its leaf, then of its references
unfoldable pub type_checks : ℕ → ℕ → List ℕ → List (Check RecordFault)
type_checks many position r =
    map (leaf_check position) (record_checks r) ++ reference_checks many position r (places_of r)

-- the checks of these records, where the first is at `position` of `many` records
unfoldable pub type_checks_from : ℕ → ℕ → List (List ℕ) → List (Check RecordFault)
type_checks_from many position [] = []
type_checks_from many position (r ∷ rs) =
    type_checks many position r ++ type_checks_from many (position + 1) rs

-- the checks of all records, one record after the other
abbrev pub checks_of : List (List ℕ) → List (Check RecordFault)
checks_of records = type_checks_from (length records) 0 records

-- the fault is that of a record
abbrev pub IsOfRecord : {A : Type 0} → TypeFault A → RecordFault → Type 0
IsOfRecord (fault.Leaf index leaf) e = e ≡ inner.Leaf index leaf
IsOfRecord (fault.Ref index place to) e = e ≡ inner.Ref index place to
IsOfRecord _ e = ⊥

-- the records have this fault: it is the first check of a record that fails;
-- or no such check fails, and it names the records that lead into a cycle
abbrev pub HasTypeFault : {A : Type 0} → List (List ℕ) → TypeFault A → Type 0
HasTypeFault records (fault.Leaf index leaf) =
    first_failing (checks_of records) ≡ Some (inner.Leaf index leaf)
HasTypeFault records (fault.Ref index place to) =
    first_failing (checks_of records) ≡ Some (inner.Ref index place to)
HasTypeFault records (fault.Cycle indices) =
    (first_failing (checks_of records) ≡ None) × IsCycle records indices.items
HasTypeFault records fault.Memory = ⊥

-- these records are refused with this fault:
-- they have it, or each check of a record holds and this runs out of memory
abbrev pub IsTypeFault : {A : Type 0} → List (List ℕ) → TypeFault A → Type 0
IsTypeFault records refusal =
    HasTypeFault records refusal
    ⊎ ((refusal ≡ fault.Memory) × (first_failing (checks_of records) ≡ None))

-- the fault names the records that lead into a cycle, or it is out of memory
abbrev pub IsCycleFault : {A : Type 0} → List (List ℕ) → TypeFault A → Type 0
IsCycleFault records (fault.Cycle indices) = IsCycle records indices.items
IsCycleFault records fault.Memory = Unit {0}
IsCycleFault records _ = ⊥
