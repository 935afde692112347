-- Records that lead into a cycle.
use Rattle.std.proofs.Common.{◌≡◌, ◌≤◌, ◌<◌, ◌+◌, ◌^◌, ℕ, List, map, length, get_or, refl, sym, ap, ◌∙◌, arith}
use Rattle.std.specs.List.{All}
use Rattle.std.proofs.lemmas.List.Elements.{Contains-get_or}
use Rattle.topological_order.specs.Cycle.{IsCycleSet}
use Rattle.topological_order.proofs.OrderLaws.{names_inside, ranked_uncaught}
use Rattle.topological_order.proofs.CycleLaws as graph
use Rattle.checked_types.specs.Graph.{graph_of}
use Rattle.checked_types.specs.Laws.{OneCycle, CyclicTypesHaveNoRank}
use Rattle.type_trees.specs.Types.{AreTypes}
use Rattle.checked_types.specs.Check.{HasTypeFault, IsCycleFault}
use Rattle.checked_types.specs.declared.fault.RecordFault.TheVariants as inner
use Rattle.checked_types.specs.declared.fault.TypeFault.{TypeFault}
use Rattle.checked_types.specs.declared.fault.TypeFault.TheVariants as fault
use Rattle.checked_types.proofs.CheckLaws.{not_refused}
use Rattle.checked_types.proofs.GraphLaws.{many_nodes, ranked_graph}
use Rattle.tpi_records.specs.Header.{first_index}

-- the nodes of a cycle are positions of records
pub cycle_inside : (records : List (List ℕ)) (nodes : List ℕ) → IsCycleSet (graph_of records) nodes → length records ≤ 2 ^ 30 → All (λ p. p < 2 ^ 30) nodes
cycle_inside records nodes set few k d lt =
    let one = set.names (get_or nodes k d) (Contains-get_or nodes k d lt) in
    omega (arith, names_inside (graph_of records) (get_or nodes k d) one.0 one.1, many_nodes records, few)

-- there is one list of the records that lead into a cycle
pub one_cycle : OneCycle
one_cycle records indices others a b =
    a.2 ∙ ap (λ (ps : List ℕ). map (λ p. first_index + p) ps) (graph.one_cycle_set (graph_of records) a.0 b.0 a.1 b.1) ∙ sym b.2

-- if some records lead into a cycle, the records have no rank
pub cycles_have_no_rank : CyclicTypesHaveNoRank
cycles_have_no_rank records indices rank cycle ranked = ranked_uncaught (graph_of records) cycle.0 rank cycle.1 (ranked_graph records rank ranked)

-- records that make types have no fault
pub types_sound : {A : Type 0} (records : List (List ℕ)) (e : TypeFault A) → AreTypes records → HasTypeFault records e → ⊥
types_sound records (fault.Leaf index leaf) types has = not_refused records (inner.Leaf index leaf) has types
types_sound records (fault.Ref index place to) types has = not_refused records (inner.Ref index place to) has types
types_sound records (fault.Cycle indices) types has = cycles_have_no_rank records indices.items types.ranked.0 has.1 types.ranked.1
types_sound records fault.Memory types has = has

-- records that make types are refused only when out of memory
pub wants_memory : {A : Type 0} (records : List (List ℕ)) (e : TypeFault A) → AreTypes records → IsCycleFault records e → e ≡ fault.Memory
wants_memory records (fault.Leaf index leaf) types of = absurd of
wants_memory records (fault.Ref index place to) types of = absurd of
wants_memory records (fault.Cycle indices) types of = absurd (cycles_have_no_rank records indices.items types.ranked.0 of types.ranked.1)
wants_memory records fault.Memory types of = refl
