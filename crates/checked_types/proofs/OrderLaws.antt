-- The positions of records in an order.
use Rattle.std.proofs.Common.{◌≡◌, ◌≢◌, ◌≤◌, ◌<◌, ◌⊎◌, ◌+◌, ◌-◌, ℕ, suc, List, [], ◌∷◌, ◌++◌, Option, Some, None, length, take, drop, get_or, refl, sym, ap, ◌∙◌, subst, arith, length-append}
use Rattle.std.specs.Borrow.{Bor}
use Rattle.std.specs.List.{All, AllByRecursion, AllPairs, Contains, concat, range_with_len, sum_by}
use Rattle.std.proofs.lemmas.Bool.{eqb-true}
use Rattle.std.proofs.lemmas.List.{drop_more, drop_all, length-take-le, get_or-take, get_or_at, take_at}
use Rattle.std.proofs.lemmas.List.Elements.{All-contains}
use Rattle.std.proofs.lemmas.List.Sums.{sum_by-cons}
use Rattle.std.proofs.lemmas.Bool.Decides.{Decides-eqb}
use Rattle.std.proofs.lemmas.Map.Steps.{length-le_from_distinct_below}
use Rattle.std.proofs.lemmas.Map.Made.{IsDistinct-from_AllPairs}
use Rattle.std.proofs.lemmas.Map.Views.{Contains-from_any}
use Rattle.std.proofs.lemmas.List.FromFn.{get_or-range_with_len, length-range_with_len}
use Rattle.byte_fields.specs.Check.{first_failing}
use Rattle.tpi_records.specs.Records.{IsRecord}
use Rattle.topological_order.specs.Graph.{Names}
use Rattle.topological_order.specs.Order.{IsOrder}
use Rattle.cv_leaves.specs.References.{references}
use Rattle.type_trees.specs.Tree.{IsRanked}
use Rattle.type_trees.specs.Types.{AreTypes}
use Rattle.checked_types.specs.Check.{checks_of}
use Rattle.checked_types.specs.Graph.{graph_of}
use Rattle.checked_types.specs.Order.{positions_left, EndsAt}
use Rattle.checked_types.proofs.CheckLaws.{passed_checked, passed_there}
use Rattle.checked_types.proofs.GraphLaws.{named_at, many_nodes, each_named, ranked_graph, order_ranks}
use Rattle.type_trees.proofs.WeightLaws.{sum_grows}
use Rattle.tpi_records.specs.Header.{first_index}

-- ---- What is left

-- if numbers are left, the next one is the first of them
pub left_counted : (next end : ℕ) → next < end → range_with_len next (end - next) ≡ next ∷ range_with_len (next + 1) (end - (next + 1))
left_counted next end lt = let one : end - next ≡ suc (end - (next + 1)) = omega arith in rw one refl

-- if a part of a list is left, the next one is the first of that part
pub left_listed : (list : List ℕ) (next end x : ℕ) → length list ≡ end → next < end → x ≡ get_or list next x → drop next list ≡ x ∷ drop (next + 1) list
left_listed list next end x many lt read = drop_more list next x (omega (arith, many, lt)) ∙ ap (λ (y : ℕ). y ∷ drop (next + 1) list) (sym read)

-- nothing is left at the end
pub left_none : (listed : Option (Bor (List ℕ))) (next end : ℕ) → EndsAt listed end → end ≤ next → positions_left listed next end ≡ []
left_none None next end ends le = let none : end - next ≡ 0 = omega arith in rw none refl
left_none (Some list) next end ends le = drop_all next list.now (omega (arith, ends))

-- ---- Records that are already in an order

-- the number at place i is i
pub number_at : (n i d : ℕ) → i < n → get_or (range_with_len 0 n) i d ≡ i
number_at n i d lt = omega (arith, get_or-range_with_len 0 n i d lt)

-- each number below n is in the list of them
counted_in : (n i : ℕ) → i < n → Contains (range_with_len 0 n) i
counted_in n i lt = (i, omega (arith, lt, length-range_with_len 0 n), number_at n i i lt)

-- each number below k comes before the place k
pub front_counted : (n k i : ℕ) → k ≤ n → i < k → Contains (take k (range_with_len 0 n)) i
front_counted n k i le lt =
    (i, omega (arith, lt, length-take-le k (range_with_len 0 n) (omega (arith, le, length-range_with_len 0 n))), get_or-take k (range_with_len 0 n) i i lt ∙ number_at n i i (omega (arith, lt, le)))

-- the list has each number below `many` once
pub record IsListing (many : ℕ) (order : List ℕ) : Type 0 where
  pub inside : All (λ i. i < many) order
  pub whole : (i : ℕ) → i < many → Contains order i
  pub once : AllPairs (λ i j. i ≢ j) order

-- the numbers below n, as they stand, are such a list
pub listing_counted : (n : ℕ) → IsListing n (range_with_len 0 n)
listing_counted n = record {
  inside = λ k d lt. omega (arith, number_at n k d (omega (arith, lt, many)), lt, many);
  whole = λ i lt. counted_in n i lt;
  once = λ i j d lt below same. omega (arith, lt, below, many, same, number_at n i d (omega (arith, lt, below, many)), number_at n j d (omega (arith, below, many)));
}
  where
    many : length (range_with_len 0 n) ≡ n
    many = length-range_with_len 0 n

-- an order of records is such a list of their positions
pub order_lists : (records : List (List ℕ)) (order : List ℕ) → IsOrder (graph_of records) order → IsListing (length records) order
order_lists records order o = record {
  inside = subst (λ (n : ℕ). All (λ i. i < n) order) (many_nodes records) o.inside;
  whole = λ i lt. o.whole i (omega (arith, lt, many_nodes records));
  once = o.once;
}

-- records that name only earlier records are already in an order
pub stand_in_order : (records : List (List ℕ)) → IsRanked records (λ i. i) → IsOrder (graph_of records) (range_with_len 0 (length records))
stand_in_order records ranked = record {
  inside = subst (λ (m : ℕ). All (λ i. i < m) (range_with_len 0 n)) (sym (many_nodes records)) (listing_counted n).inside;
  whole = λ i lt. counted_in n i (omega (arith, lt, many_nodes records));
  once = (listing_counted n).once;
  after = λ k lt m names.
      let inside : k < n = omega (arith, lt, many) in
      let at : get_or (range_with_len 0 n) k 0 ≡ k = number_at n k 0 inside in
      front_counted n k m (omega (arith, inside)) (ranked_graph records (λ i. i) ranked k m (subst (λ (x : ℕ). Names (graph_of records) x m) at names));
}
  where
    n : ℕ
    n = length records

    many : length (range_with_len 0 n) ≡ n
    many = length-range_with_len 0 n

-- records that pass all checks and have an order are types
pub ordered_types : (records : List (List ℕ)) (order : List ℕ) → AllByRecursion IsRecord records → first_failing (checks_of records) ≡ None → IsOrder (graph_of records) order → AreTypes records
ordered_types records order framed held o = record {
  framed = framed;
  checked = passed_checked records framed held;
  ranked = order_ranks records order (passed_there records framed held) o;
}

-- an order is no longer than the records
pub order_short : (records : List (List ℕ)) (order : List ℕ) → IsOrder (graph_of records) order → length order ≤ length records
order_short records order o =
    length-le_from_distinct_below order (length records) (IsDistinct-from_AllPairs Decides-eqb order o.once) (λ q there. omega (arith, many_nodes records, All-contains (λ i. i < length (graph_of records)) order q o.inside (Contains-from_any (λ x y same. eqb-true x y same) q order there)))

-- ---- Record by record

-- each of these references is simple, or what it names is done
abbrev pub NamesDone : (ℕ → Type 0) → List ℕ → Type 0
NamesDone done ns = AllByRecursion (λ n. (n < first_index) ⊎ done (n - first_index)) ns

-- the next in the order is the position of a record, and what that record names comes before it
pub next_in_order : (records : List (List ℕ)) (done left others : List ℕ) (order : List ℕ) (p : ℕ) → IsOrder (graph_of records) order → order ≡ done ++ left → left ≡ p ∷ others
    → (p < length records) × NamesDone (Contains done) (references (get_or records p [])) × (length done < length order)
next_in_order records done left others order p o parts split =
    let all : order ≡ done ++ p ∷ others = parts ∙ ap (λ (xs : List ℕ). done ++ xs) split in
    let inside : length done < length order = omega (arith, ap length all, length-append done (p ∷ others)) in
    let at : get_or order (length done) 0 ≡ p = ap (λ (xs : List ℕ). get_or xs (length done) 0) all ∙ get_or_at done p others 0 (length done) refl in
    let front : take (length done) order ≡ done = ap (take (length done)) all ∙ take_at done (p ∷ others) (length done) refl in
    let below : p < length records = omega (arith, many_nodes records, subst (λ (i : ℕ). i < length (graph_of records)) at (o.inside (length done) 0 inside)) in (
      below,
      each_named (Contains done) (references (get_or records p [])) (λ n names.
          subst (λ (xs : List ℕ). Contains xs n) front
          (o.after (length done) inside n (subst (λ (i : ℕ). Names (graph_of records) i n) (sym at) (subst (λ (xs : List ℕ). Contains xs n) (sym (named_at records p below)) names)))),
      inside,
    )

-- ---- The bytes of the records in an order

-- the bytes of all records, counted by position
range_weighs : (records : List (List ℕ)) (f : ℕ → ℕ) (a : ℕ) → ((k : ℕ) → k < length records → f (a + k) ≡ length (get_or records k [])) → sum_by f (range_with_len a (length records)) ≡ length (concat records)
range_weighs [] f a same = refl
range_weighs (r ∷ rs) f a same =
    let first : f a ≡ length r = let zero_more : a + 0 ≡ a = omega arith in subst (λ (x : ℕ). f x ≡ length r) zero_more (same 0 (omega arith)) in
    let rest : sum_by f (range_with_len (a + 1) (length rs)) ≡ length (concat rs) = range_weighs rs f (a + 1) (λ k lt.
    let one_more : a + suc k ≡ a + 1 + k = omega arith in subst (λ (x : ℕ). f x ≡ length (get_or rs k [])) one_more (same (suc k) (omega (arith, lt)))) in
    omega (arith, sum_by-cons f a (range_with_len (a + 1) (length rs)), first, rest, length-append r (concat rs))

-- the records in an order have no more bytes than all records
pub order_weighs : (records : List (List ℕ)) (order : List ℕ) → IsListing (length records) order → sum_by (λ p. length (get_or records p [])) order ≤ length (concat records)
order_weighs records order o =
    let n = length records in
    let most = sum_grows (λ p. length (get_or records p [])) 0 order (range_with_len 0 n) o.once (λ p on. counted_in n p (All-contains (λ i. i < n) order p o.inside on)) in
    omega (arith, most, range_weighs records (λ p. length (get_or records p [])) 0 (λ k lt. let same : 0 + k ≡ k = omega arith in ap (λ (x : ℕ). length (get_or records x [])) same))
