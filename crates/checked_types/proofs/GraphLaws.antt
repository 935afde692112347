-- What records name, as a graph.
use Rattle.std.proofs.Common.{◌≡◌, ◌≤◌, ◌<◌, ◌⊎◌, ◌+◌, ◌-◌, ◌*◌, ℕ, List, [], ◌∷◌, ◌++◌, length, map, drop, get_or, refl, sym, ap, ◌∙◌, subst, arith, inl, inr}
use Rattle.std.specs.List.{AllByRecursion, Contains, concat}
use Rattle.std.proofs.lemmas.Bool.{cases_lt, lt-ltb, le-ltb}
use Rattle.std.proofs.lemmas.List.{get_or-map, length-append, length-map, length-drop, append_assoc, append-nil, drop_more}
use Rattle.cv_leaves.specs.Checks.{body_of, places_of}
use Rattle.cv_leaves.specs.Place.{IsChecked, Apart}
use Rattle.cv_leaves.proofs.PlaceLaws.{places_apart}
use Rattle.cv_leaves.proofs.HoldLaws.{places_met}
use Rattle.topological_order.specs.Graph.{Names, NamesNodes, IsRank}
use Rattle.topological_order.specs.Order.{IsOrder}
use Rattle.topological_order.proofs.WalkLaws.{none_in}
use Rattle.topological_order.proofs.OrderLaws.{in_cons, in_head, in_tail, names_inside, orders_rank}
use Rattle.cv_leaves.specs.References.{reference_at, references}
use Rattle.type_trees.specs.Tree.{IsRanked, NamesLower}
use Rattle.checked_types.specs.Graph.{positions_in, named_by, graph_of}
use Rattle.type_trees.specs.Types.{NamesThere}
use Rattle.checked_types.specs.Check.{AllNameThere}
use Rattle.type_trees.proofs.TreeLaws.{at_position}
use Rattle.tpi_records.specs.Header.{first_index}

-- ---- The positions that references name

-- a simple reference names no position
pub positions_simple : (n : ℕ) (ns : List ℕ) → n < first_index → positions_in (n ∷ ns) ≡ positions_in ns
unfolding positions_in
positions_simple n ns small = rw (lt-ltb n first_index small) refl

-- any other reference names a position
pub positions_other : (n : ℕ) (ns : List ℕ) → first_index ≤ n → positions_in (n ∷ ns) ≡ (n - first_index) ∷ positions_in ns
unfolding positions_in
positions_other n ns large = rw (le-ltb n first_index large) refl

-- no references name no positions
pub positions_none : positions_in [] ≡ []
unfolding positions_in
positions_none = refl

-- a position that is named is named by a reference
pub position_named : (ns : List ℕ) (p : ℕ) → Contains (positions_in ns) p → Contains ns (first_index + p)
position_named [] p there = none_in p (subst (λ (xs : List ℕ). Contains xs p) positions_none there)
position_named (n ∷ ns) p there = elim (cases_lt n first_index) [
  | inl small ↦ in_tail n ns (first_index + p) (position_named ns p (subst (λ (xs : List ℕ). Contains xs p) (positions_simple n ns small) there))
  | inr large ↦ elim (in_cons (n - first_index) (positions_in ns) p (subst (λ (xs : List ℕ). Contains xs p) (positions_other n ns large) there)) [
    | inl same ↦
        let is : n ≡ first_index + p = omega (arith, same, large) in
        subst (λ (x : ℕ). Contains (n ∷ ns) x) is (in_head n ns)
    | inr later ↦ in_tail n ns (first_index + p) (position_named ns p later)
  ]
]

-- where something holds of each position that is named, each reference is simple or has it
pub each_named : (P : ℕ → Type 0) (ns : List ℕ) → ((p : ℕ) → Contains (positions_in ns) p → P p) → AllByRecursion (λ n. (n < first_index) ⊎ P (n - first_index)) ns
each_named P [] holds = tt
each_named P (n ∷ ns) holds = elim (cases_lt n first_index) [
  | inl small ↦ (inl small, each_named P ns (λ p there. holds p (subst (λ (xs : List ℕ). Contains xs p) (sym (positions_simple n ns small)) there)))
  | inr large ↦ (
    inr (holds (n - first_index) (subst (λ (xs : List ℕ). Contains xs (n - first_index)) (sym (positions_other n ns large)) (in_head (n - first_index) (positions_in ns)))),
    each_named P ns (λ p there. holds p (subst (λ (xs : List ℕ). Contains xs p) (sym (positions_other n ns large)) (in_tail (n - first_index) (positions_in ns) p there))),
  )
]

-- the positions that the record at i names
pub named_at : (records : List (List ℕ)) (i : ℕ) → i < length records → get_or (graph_of records) i [] ≡ positions_in (references (get_or records i []))
unfolding named_by
named_at records i inside = get_or-map named_by records i [] [] inside

-- the graph has a node for each record
pub many_nodes : (records : List (List ℕ)) → length (graph_of records) ≡ length records
many_nodes records = length-map records named_by

-- what a node of the graph names is named by a reference of its record
pub node_refers : (records : List (List ℕ)) (i n : ℕ) → Names (graph_of records) i n → (i < length records) × Contains (references (get_or records i [])) (first_index + n)
node_refers records i n names =
    let inside : i < length records = omega (arith, names_inside (graph_of records) i n names, many_nodes records) in
    (inside, position_named (references (get_or records i [])) n (subst (λ (xs : List ℕ). Contains xs n) (named_at records i inside) names))

-- ---- Record by record

-- a simple reference adds no position
pub named_simple : (r : List ℕ) (place : ℕ) (left others named all : List ℕ) → named ++ positions_in (map (reference_at r) left) ≡ all → left ≡ place ∷ others → reference_at r place < first_index → named ++ positions_in (map (reference_at r) others) ≡ all
named_simple r place left others named all so_far split small =
    ap (λ (xs : List ℕ). named ++ xs) (sym (ap (λ (ps : List ℕ). positions_in (map (reference_at r) ps)) split ∙ positions_simple (reference_at r place) (map (reference_at r) others) small)) ∙ so_far

-- any other reference adds a position
pub named_more : (r : List ℕ) (place p : ℕ) (left others named all : List ℕ) → named ++ positions_in (map (reference_at r) left) ≡ all → left ≡ place ∷ others → first_index ≤ reference_at r place → p ≡ reference_at r place - first_index
    → (named ++ p ∷ []) ++ positions_in (map (reference_at r) others) ≡ all
named_more r place p left others named all so_far split large is =
    append_assoc named (p ∷ []) (positions_in (map (reference_at r) others))
    ∙ ap (λ (q : ℕ). named ++ q ∷ positions_in (map (reference_at r) others)) is
    ∙ ap (λ (xs : List ℕ). named ++ xs) (sym (ap (λ (ps : List ℕ). positions_in (map (reference_at r) ps)) split ∙ positions_other (reference_at r place) (map (reference_at r) others) large)) ∙ so_far

-- at the start all references are left
pub named_all : (r places named : List ℕ) → places ≡ places_of r → named ++ positions_in (map (reference_at r) places) ≡ named ++ named_by r
unfolding named_by references
named_all r places named own = ap (λ (ps : List ℕ). named ++ positions_in (map (reference_at r) ps)) own

-- at the end the positions are those that the record names
pub named_whole : (r left named all : List ℕ) → named ++ positions_in (map (reference_at r) left) ≡ all → left ≡ [] → named ≡ all
named_whole r left named all so_far none =
    sym (append-nil named) ∙ ap (λ (xs : List ℕ). named ++ xs) (sym (ap (λ (ps : List ℕ). positions_in (map (reference_at r) ps)) none ∙ positions_none)) ∙ so_far

-- ---- How many

-- there are no more positions than references
positions_few : (ns : List ℕ) → length (positions_in ns) ≤ length ns
positions_few [] = rw positions_none (omega arith)
positions_few (n ∷ ns) = elim (cases_lt n first_index) [
  | inl small ↦ rw (positions_simple n ns small) (omega (arith, positions_few ns))
  | inr large ↦ rw (positions_other n ns large) (omega (arith, positions_few ns))
]

-- there are few places, because they are apart: each has its four bytes
apart_few : (from : ℕ) (places : List ℕ) (end : ℕ) → Apart from places end → from + 4 * length places ≤ end
apart_few from [] end apart = omega (arith, apart)
apart_few from (p ∷ ps) end apart = omega (arith, apart.0, apart_few (p + 4) ps end apart.1)

-- a record has at least four bytes for each record that it names
pub named_few : (r : List ℕ) → IsChecked r → 4 * length (named_by r) ≤ length r
unfolding named_by references body_of
named_few r checked =
    let own = places_met r checked.0 checked.1 in
    let few = apart_few 0 checked.0 (length (body_of r)) (places_apart r checked.0 checked.1) in
    let many : length (references r) ≡ length checked.0 = length-map (places_of r) (reference_at r) ∙ ap length (sym own) in
    omega (arith, positions_few (references r), few, many, length-drop 4 r)

-- the bytes of a record and of those after it
pub bytes_left : (records : List (List ℕ)) (k : ℕ) → k < length records → length (concat (drop k records)) ≡ length (get_or records k []) + length (concat (drop (k + 1) records))
bytes_left records k inside = ap (λ (rs : List (List ℕ)). length (concat rs)) (drop_more records k [] inside) ∙ length-append (get_or records k []) (concat (drop (k + 1) records))

-- the bytes of the records that are left are enough for the positions that are named: four for each
pub still_short : (records : List (List ℕ)) (named : ℕ) (row : List ℕ) (k : ℕ) → k < length records → IsChecked (get_or records k []) → row ≡ named_by (get_or records k []) → 4 * named + length (concat (drop k records)) ≤ length (concat records)
    → 4 * (named + length row) + length (concat (drop (k + 1) records)) ≤ length (concat records)
still_short records named row k inside checked is so_far = omega (arith, ap length is, named_few (get_or records k []) checked, bytes_left records k inside, so_far)

-- ---- Within the records, and ranks

-- the nodes name only nodes, if each reference is simple or names a record
pub nodes_inside : (records : List (List ℕ)) → AllNameThere (length records) records → NamesNodes (graph_of records)
nodes_inside records there i n names =
    let refers = node_refers records i n names in
    let low = below (references (get_or records i [])) (first_index + n) (at_position (λ r. NamesThere (length records) (references r)) records i there refers.0) refers.1 in
    omega (arith, low, many_nodes records)
  where
    below : (ns : List ℕ) (m : ℕ) → NamesThere (length records) ns → Contains ns m → m < first_index + length records
    below [] m each on = none_in m on
    below (k ∷ ks) m each on = elim (in_cons k ks m on) [ inl same ↦ omega (arith, each.0, same) | inr later ↦ below ks m each.1 later ]

-- a rank of the records is a rank of their graph
pub ranked_graph : (records : List (List ℕ)) (rank : ℕ → ℕ) → IsRanked records rank → IsRank (graph_of records) rank
ranked_graph records rank ranked i n names =
    let refers = node_refers records i n names in
    lower (references (get_or records i [])) (ranked i refers.0) refers.1
  where
    lower : (ns : List ℕ) → AllByRecursion (NamesLower records rank i) ns → Contains ns (first_index + n) → rank n < rank i
    lower [] each on = none_in (first_index + n) on
    lower (m ∷ ms) each on = elim (in_cons m ms (first_index + n) on) [
      | inl same ↦ elim each.0 [
        | inl small ↦ absurd (omega (arith, small, same))
        | inr low ↦
            let at : m - first_index ≡ n = omega (arith, same) in
            subst (λ (x : ℕ). rank x < rank i) at low.1
      ]
      | inr later ↦ lower ms each.1 later
    ]

-- a rank of the graph is a rank of the records, where each reference is simple or names a record
graph_ranked : (records : List (List ℕ)) (rank : ℕ → ℕ) → AllNameThere (length records) records → IsRank (graph_of records) rank → IsRanked records rank
graph_ranked records rank there ranked i lt =
    lower (references (get_or records i [])) (each_named (λ p. (p < length records) × (rank p < rank i)) (references (get_or records i [])) (λ p names.
    let named = subst (λ (xs : List ℕ). Contains xs p) (sym (named_at records i lt)) names in
    (omega (arith, nodes_inside records there i p named, many_nodes records), ranked i p named)))
  where
    lower : (ns : List ℕ) → AllByRecursion (λ n. (n < first_index) ⊎ ((n - first_index < length records) × (rank (n - first_index) < rank i))) ns → AllByRecursion (NamesLower records rank i) ns
    lower ns each = each

-- records that have an order have a rank
pub order_ranks : (records : List (List ℕ)) (order : List ℕ) → AllNameThere (length records) records → IsOrder (graph_of records) order → (rank : ℕ → ℕ) × IsRanked records rank
order_ranks records order there o = let r = orders_rank (graph_of records) order o in (r.0, graph_ranked records r.0 there r.1)
