-- How types are added to a table one by one, in an order in which each comes after those that it names.
use Rattle.std.proofs.Common.{◌≡◌, ◌≤◌, ◌<◌, ◌+◌, ◌-◌, ◌^◌, ℕ, zero, suc, List, [], ◌∷◌, ◌++◌, length, take, set, replicate, get_or, refl, sym, ap, ◌∙◌, subst, arith, inl, inr, length-append}
use Rattle.std.proofs.lemmas.List.{append_assoc, append-nil, length-replicate, length-set, get_or_default, get_or_append_left, get_or_at, get_or-set_same, get_or-set_other}
use Rattle.std.proofs.lemmas.List.Elements.{All-contains, Contains-push_cases, Contains-append_left}
use Rattle.std.proofs.lemmas.List.Sums.{sum_by-cons}
use Rattle.std.specs.List.{Contains, concat, sum_by}
use Rattle.topological_order.specs.Order.{IsOrder}
use Rattle.topological_order.proofs.WalkLaws.{none_in}
use Rattle.tpi_records.specs.Header.{first_index}
use Rattle.tpi_records.specs.Records.{IsRecord}
use Rattle.cv_leaves.specs.Place.{IsChecked}
use Rattle.cv_leaves.specs.References.{references}
use Rattle.type_trees.specs.Types.{AreTypes}
use Rattle.type_trees.specs.Table.{IsTable, AreNumbered, renumbered}
use Rattle.type_trees.proofs.TreeLaws.{at_position, tree_there}
use Rattle.type_trees.proofs.RenumberLaws.{renumbered_long}
use Rattle.type_trees.proofs.NextLaws.{in_range}
use Rattle.checked_types.specs.Graph.{graph_of}
use Rattle.checked_types.proofs.OrderLaws.{NamesDone, next_in_order, order_lists, order_weighs}
use Rattle.type_table.specs.Merge.{IsPut, IsAdded}
use Rattle.canonical_list.specs.Numbers.{AreNumbers}
use Rattle.type_table.proofs.AddLaws.{Adds, adds_more, adds_none, adds_all, table_few, holds_short}

-- ---- Record by record

-- some of the types are added, and these are left; together with those of the table the bytes that are left are few
pub record IsAdding (types : List (List ℕ)) (left : List ℕ) (before after : List (List ℕ)) (positions : List ℕ) : Type 0 where
  pub done : List ℕ
  pub are : AreTypes types
  pub order : IsOrder (graph_of types) (done ++ left)
  pub many : length positions ≡ length types
  pub adds : Adds types before after (λ p. get_or positions p 0) (Contains done)
  pub few : length (concat after) + sum_by (λ p. length (get_or types p [])) left < 2 ^ 33
  pub light : length (concat after) + sum_by (λ p. length (get_or types p [])) left ≤ length (concat before) + length (concat types)

-- an empty list that is made longer has zeros alone
pub all_zeros : (old new : List ℕ) (n len : ℕ) → old ≡ [] → len ≡ 0 → new ≡ take n old ++ replicate (n - len) 0 → new ≡ replicate n 0
all_zeros old new n len none empty is =
    let all : n - len ≡ n = omega (arith, empty) in
    is ∙ ap (λ (xs : List ℕ). take n xs ++ replicate (n - len) 0) none ∙ ap (λ (xs : List ℕ). xs ++ replicate (n - len) 0) (nothing_taken n) ∙ ap (λ (m : ℕ). replicate {A = ℕ} m 0) all
  where
    nothing_taken : (m : ℕ) → take {A = ℕ} m [] ≡ []
    nothing_taken zero = refl
    nothing_taken (suc m) = refl

-- at the start none is added
pub adding_starts : (types : List (List ℕ)) (left : List ℕ) (before : List (List ℕ)) (many : ℕ) (positions : List ℕ) → IsTable before → length (concat before) < 2 ^ 32 → length (concat types) < 2 ^ 32 → AreTypes types → IsOrder (graph_of types) left
    → many ≡ length types → positions ≡ replicate many 0 → IsAdding types left before before positions
adding_starts types left before many positions table short all_short are order same zeros = record {
  done = [];
  are = are;
  order = order;
  many = ap length zeros ∙ length-replicate {A = ℕ} many 0 ∙ same;
  adds = adds_none types before (λ p. get_or positions p 0) (Contains []) table (λ k on. none_in k on);
  few = omega (arith, short, all_short, order_weighs types left (order_lists types left order));
  light = omega (arith, order_weighs types left (order_lists types left order));
}

-- the next one is the position of a type
pub adding_next : (types : List (List ℕ)) (left others : List ℕ) (before after : List (List ℕ)) (positions : List ℕ) (p : ℕ) → (a : IsAdding types left before after positions) → left ≡ p ∷ others
    → (p < length types) × (get_or (a.done ++ left) (length a.done) 0 ≡ p) × (length a.done < length (a.done ++ left))
adding_next types left others before after positions p a split =
    let all : a.done ++ left ≡ a.done ++ p ∷ others = ap (λ (xs : List ℕ). a.done ++ xs) split in
    let inside : length a.done < length (a.done ++ left) = omega (arith, ap length all, length-append a.done (p ∷ others)) in
    let at : get_or (a.done ++ left) (length a.done) 0 ≡ p = ap (λ (xs : List ℕ). get_or xs (length a.done) 0) all ∙ get_or_at a.done p others 0 (length a.done) refl in
    (subst (λ (i : ℕ). i < length types) at ((order_lists types (a.done ++ left) a.order).inside (length a.done) 0 inside), at, inside)

-- what the next one names is done
adding_names : (types : List (List ℕ)) (left others : List ℕ) (before after : List (List ℕ)) (positions : List ℕ) (p : ℕ) → (a : IsAdding types left before after positions) → left ≡ p ∷ others
    → NamesDone (Contains a.done) (references (get_or types p []))
adding_names types left others before after positions p a split = (next_in_order types a.done left others (a.done ++ left) p a.order refl split).1

-- it has places
pub adding_checked : (types : List (List ℕ)) (left : List ℕ) (before after : List (List ℕ)) (positions : List ℕ) (p : ℕ) → IsAdding types left before after positions → p < length types → IsChecked (get_or types p [])
adding_checked types left before after positions p a inside = at_position IsChecked types p a.are.checked inside

-- its bytes are few beside those of the table
pub adding_few : (types : List (List ℕ)) (left others : List ℕ) (before after : List (List ℕ)) (positions : List ℕ) (p : ℕ) → IsAdding types left before after positions → left ≡ p ∷ others
    → length (concat after) + length (get_or types p []) + sum_by (λ q. length (get_or types q [])) others < 2 ^ 33
adding_few types left others before after positions p a split =
    let whole = ap (sum_by (λ q. length (get_or types q []))) split ∙ sum_by-cons (λ q. length (get_or types q [])) p others in
    omega (arith, a.few, whole)

-- each type that it names has a position in the table
pub adding_numbered : (types : List (List ℕ)) (left others : List ℕ) (before after : List (List ℕ)) (positions : List ℕ) (p : ℕ) → IsAdding types left before after positions → left ≡ p ∷ others
    → AreNumbered positions (references (get_or types p []))
adding_numbered types left others before after positions p a split =
    numbered (references (get_or types p [])) (adding_names types left others before after positions p a split)
  where
    small : length after < 2 ^ 31
    small = table_few after a.adds.table (omega (arith, adding_few types left others before after positions p a split))

    inside : (q : ℕ) → Contains a.done q → q < length positions
    inside q on = omega (arith, a.many, All-contains (λ i. i < length types) (a.done ++ left) q (order_lists types (a.done ++ left) a.order).inside (Contains-append_left a.done left q on))

    numbered : (ns : List ℕ) → NamesDone (Contains a.done) ns → AreNumbered positions ns
    numbered [] names = tt
    numbered (n ∷ ns) names = (elim names.0 [ inl low ↦ inl low | inr on ↦ inr (inside (n - first_index) on, omega (arith, a.adds.inside (n - first_index) on, small)) ], numbered ns names.1)

-- one more type is added
pub adding_more : (types : List (List ℕ)) (left others : List ℕ) (before after grown : List (List ℕ)) (positions : List ℕ) (p last : ℕ) → IsAdding types left before after positions → left ≡ p ∷ others
    → IsPut after grown positions (get_or types p []) last → IsAdding types others before grown (set positions p last)
adding_more types left others before after grown positions p last a split put =
    let next = adding_next types left others before after positions p a split in
    let r : List ℕ = get_or types p [] in
    let f : ℕ → ℕ = λ q. get_or positions q 0 in
    let few = adding_few types left others before after positions p a split in
    record {
      done = a.done ++ p ∷ [];
      are = a.are;
      order = subst (IsOrder (graph_of types)) (all ∙ sym (append_assoc a.done (p ∷ []) others)) a.order;
      many = length-set positions p last ∙ a.many;
      adds = adds_more types before after grown f (λ q. get_or (set positions p last) q 0) (Contains a.done) (Contains (a.done ++ p ∷ [])) p last a.adds
          (omega (arith, table_few after a.adds.table (omega (arith, few)))) (at_position IsRecord types p a.are.framed next.0) put.checked
          (tree_there types a.are.ranked.0 p a.are.ranked.1 next.0) (adding_names types left others before after positions p a split)
          put.bytes put.holds put.inside put.at
          (λ k old. get_or-set_other positions p k last 0 (apart next.1 next.2 k old))
          (get_or-set_same positions p last 0 (omega (arith, next.0, a.many)))
          (λ k new. elim (Contains-push_cases a.done p k new) [ inl old ↦ inl old | inr here ↦ inr (sym here) ]);
      few = omega (arith, few, holds_short after grown (renumbered f r) put.holds, renumbered_long f r put.checked);
      light = omega (arith, a.light, ap (sum_by (λ q. length (get_or types q []))) split, sum_by-cons (λ q. length (get_or types q [])) p others, holds_short after grown (renumbered f r) put.holds, renumbered_long f r put.checked);
    }
  where
    all : a.done ++ left ≡ a.done ++ p ∷ others
    all = ap (λ (xs : List ℕ). a.done ++ xs) split

    -- what is done is not the next one: the order has each type once
    apart : get_or (a.done ++ left) (length a.done) 0 ≡ p → length a.done < length (a.done ++ left) → (k : ℕ) → Contains a.done k → k ≡ p → ⊥
    apart at below k old same =
        let first : get_or (a.done ++ left) old.0 0 ≡ k = get_or_append_left a.done left 0 old.0 old.1 ∙ get_or_default a.done old.0 0 k old.1 ∙ old.2 in
        (order_lists types (a.done ++ left) a.order).once old.0 (length a.done) 0 old.1 below (first ∙ same ∙ sym at)

-- at the end the table has the types of both
pub all_added : (types : List (List ℕ)) (left : List ℕ) (before after : List (List ℕ)) (positions : List ℕ) → IsAdding types left before after positions → left ≡ [] → IsAdded types before after
all_added types left before after positions a none =
    let all : a.done ++ left ≡ a.done = ap (λ (xs : List ℕ). a.done ++ xs) none ∙ append-nil a.done in
    let order : IsOrder (graph_of types) a.done = subst (IsOrder (graph_of types)) all a.order in
    record {
      types = a.are;
      table = a.adds.table;
      value = adds_all types before after (λ p. get_or positions p 0) (Contains a.done) a.adds (λ k inside. (order_lists types a.done order).whole k inside);
      few = table_few after a.adds.table (omega (arith, a.few));
    }

-- and the positions are those of the types
pub added_numbers : (types : List (List ℕ)) (left : List ℕ) (before after : List (List ℕ)) (positions : List ℕ) → IsAdding types left before after positions → left ≡ [] → AreNumbers types after positions
added_numbers types left before after positions a none =
    let all : a.done ++ left ≡ a.done = ap (λ (xs : List ℕ). a.done ++ xs) none ∙ append-nil a.done in
    let order : IsOrder (graph_of types) a.done = subst (IsOrder (graph_of types)) all a.order in
    record { many = a.many; stand = λ i t at. a.adds.stand i t ((order_lists types a.done order).whole i (in_range types i t at)) at }
