-- How the depths of records are measured, in an order in which each comes after those that it names.
use Rattle.std.proofs.Common.{◌≡◌, ◌≤◌, ◌<◌, ℕ, ◌+◌, ◌-◌, List, [], ◌∷◌, ◌++◌, length, set, replicate, get_or, refl, sym, ap, ◌∙◌, subst, arith, inl, inr}
use Rattle.std.specs.List.{Contains}
use Rattle.std.proofs.lemmas.Bool.{cases_eq}
use Rattle.std.proofs.lemmas.List.{length-append, length-set, length-replicate, length_push, append_assoc, append-nil, get_or-replicate, get_or-set_same, get_or-set_other}
use Rattle.std.proofs.lemmas.List.Elements.{All-contains, Contains-push_cases, Contains-append_left}
use Rattle.topological_order.specs.Order.{IsOrder}
use Rattle.topological_order.proofs.WalkLaws.{none_in}
use Rattle.cv_leaves.specs.References.{references}
use Rattle.type_trees.specs.Tree.{Tree, IsTreeAt}
use Rattle.checked_types.specs.Graph.{graph_of}
use Rattle.type_trees.specs.Types.{NamesThere}
use Rattle.type_trees.specs.Depth.{depth, depth_above, AreDepths, AreBelow}
use Rattle.checked_types.proofs.GraphLaws.{many_nodes}
use Rattle.checked_types.proofs.OrderLaws.{NamesDone, order_short, next_in_order}
use Rattle.type_trees.proofs.DepthLaws.{Gives, depth_of_record}
use Rattle.tpi_records.specs.Header.{first_index}

-- the depths of the trees at these positions
abbrev pub AreDone : List (List ℕ) → List ℕ → List ℕ → Type 0
AreDone records done depths = (i : ℕ) (t : Tree) → Contains done i → IsTreeAt records i t → get_or depths i 0 ≡ depth t

-- the depths give the depth of each record that is done
gives_among : (records : List (List ℕ)) (done depths ns : List ℕ) → AreDone records done depths → NamesDone (Contains done) ns → Gives records (λ k. get_or depths k 0) ns
gives_among records done depths [] are among = tt
gives_among records done depths (n ∷ ns) are among =
    ((λ large u stands. elim among.0 [ inl small ↦ absurd (omega (arith, small, large)) | inr there ↦ are (n - first_index) u there stands ]), gives_among records done depths ns are among.1)

-- the depths stay right when one more record is measured
done_more : (records : List (List ℕ)) (done depths : List ℕ) (p d : ℕ) → AreDone records done depths → p < length depths → NamesDone (Contains done) (references (get_or records p []))
    → d ≡ depth_above (λ k. get_or depths k 0) (references (get_or records p [])) → AreDone records (done ++ p ∷ []) (set depths p d)
done_more records done depths p d are inside among is = λ i t on stands. elim (cases_eq i p) [
  | inl same ↦ ap (λ (k : ℕ). get_or (set depths p d) k 0) same ∙ get_or-set_same depths p d 0 inside ∙ deep t (subst (λ (k : ℕ). IsTreeAt records k t) same stands)
  | inr other ↦ elim (Contains-push_cases done p i on) [
    | inl old ↦ get_or-set_other depths p i d 0 other ∙ are i t old stands
    | inr same ↦ absurd (other (sym same))
  ]
]
  where
    deep : (t : Tree) → IsTreeAt records p t → d ≡ depth t
    deep t stands = is ∙ sym (depth_of_record records (λ k. get_or depths k 0) p t (gives_among records done depths (references (get_or records p [])) are among) stands)

-- the depths stay low when one more is set
pub below_set : (end : ℕ) (depths : List ℕ) (p d : ℕ) → p < length depths → AreBelow end depths → d ≤ end → AreBelow (end + 1) (set depths p d)
below_set end depths p d inside below low k lt = elim (cases_eq k p) [
  | inl same ↦ rw (same, get_or-set_same depths p d 0 inside) (omega (arith, low))
  | inr other ↦ rw (get_or-set_other depths p k d 0 other) (omega (arith, below k (omega (arith, lt, length-set depths p d))))
]

-- some of the records in the order are measured, and these are left
pub record IsMeasuring (records : List (List ℕ)) (order left depths : List ℕ) : Type 0 where
  pub done : List ℕ
  pub parts : order ≡ done ++ left
  pub many : length depths ≡ length records
  pub measured : AreDone records done depths
  pub low : AreBelow (length done + 1) depths

-- at the start none is measured
pub measuring_starts : (records : List (List ℕ)) (order depths : List ℕ) (many : ℕ) → many ≡ length records → depths ≡ replicate many 0 → IsMeasuring records order order depths
measuring_starts records order depths many same zeros = record {
  done = [];
  parts = refl;
  many = ap length zeros ∙ length-replicate {A = ℕ} many 0 ∙ same;
  measured = λ i t on stands. none_in i on;
  low = λ k lt. rw (zeros, get_or-replicate {A = ℕ} many k 0 0 (omega (arith, lt, ap length zeros, length-replicate {A = ℕ} many 0))) (omega arith);
}

-- the next in the order is the position of a record
pub measuring_inside : (records : List (List ℕ)) (order left others depths : List ℕ) (p : ℕ) → IsOrder (graph_of records) order → IsMeasuring records order left depths → left ≡ p ∷ others → p < length records
measuring_inside records order left others depths p o m split = (next_in_order records m.done left others order p o m.parts split).0

-- what it names has a place among the depths
pub measuring_names : (records : List (List ℕ)) (order left others depths : List ℕ) (p : ℕ) → IsOrder (graph_of records) order → IsMeasuring records order left depths → left ≡ p ∷ others
    → NamesThere (length depths) (references (get_or records p []))
measuring_names records order left others depths p o m split = below (references (get_or records p [])) (next_in_order records m.done left others order p o m.parts split).1
  where
    below : (ns : List ℕ) → NamesDone (Contains m.done) ns → NamesThere (length depths) ns
    below [] among = tt
    below (n ∷ ns) among = (
      elim among.0 [
        | inl small ↦ omega (arith, small)
        | inr there ↦
            let on : Contains order (n - first_index) = subst (λ (xs : List ℕ). Contains xs (n - first_index)) (sym m.parts) (Contains-append_left m.done left (n - first_index) there) in
            omega (arith, All-contains (λ i. i < length (graph_of records)) order (n - first_index) o.inside on, m.many, many_nodes records)
      ],
      below ns among.1,
    )

-- the depths so far are low
pub measuring_small : (records : List (List ℕ)) (order left depths : List ℕ) → IsOrder (graph_of records) order → IsMeasuring records order left depths → AreBelow (length records + 1) depths
measuring_small records order left depths o m =
    let few : length m.done ≤ length records = omega (arith, order_short records order o, ap length m.parts, length-append m.done left) in
    λ k lt. omega (arith, m.low k lt, few)

-- one more record is measured
pub measuring_more : (records : List (List ℕ)) (order left others depths : List ℕ) (p d : ℕ) → IsOrder (graph_of records) order → IsMeasuring records order left depths → left ≡ p ∷ others
    → d ≡ depth_above (λ k. get_or depths k 0) (references (get_or records p [])) → ((end : ℕ) → AreBelow end depths → d ≤ end) → IsMeasuring records order others (set depths p d)
measuring_more records order left others depths p d o m split is bound =
    let next = next_in_order records m.done left others order p o m.parts split in
    let inside : p < length depths = omega (arith, next.0, m.many) in
    record {
      done = m.done ++ p ∷ [];
      parts = m.parts ∙ ap (λ (xs : List ℕ). m.done ++ xs) split ∙ sym (append_assoc m.done (p ∷ []) others);
      many = length-set depths p d ∙ m.many;
      measured = done_more records m.done depths p d m.measured inside next.1 is;
      low = let longer : length (m.done ++ p ∷ []) ≡ length m.done + 1 = length_push m.done p in rw longer (below_set (length m.done + 1) depths p d inside m.low (bound (length m.done + 1) m.low));
    }

-- at the end the depths are those of all trees
pub all_measured : (records : List (List ℕ)) (order left depths : List ℕ) → IsOrder (graph_of records) order → IsMeasuring records order left depths → left ≡ [] → AreDepths records depths
all_measured records order left depths o m none =
    let all : order ≡ m.done = m.parts ∙ ap (λ (xs : List ℕ). m.done ++ xs) none ∙ append-nil m.done in
    λ i t inside stands. m.measured i t (subst (λ (xs : List ℕ). Contains xs i) all (o.whole i (omega (arith, inside, m.many, many_nodes records)))) stands
